-- What fills a pattern, and that one term does.
use Rattle.std.proofs.Common.{◌≡◌, ℕ, refl, sym, ap, ◌∙◌}
use Rattle.jvm_values.specs.Terms.{HeapTerm, HeapTerms}
use Rattle.jvm_values.specs.Terms as terms
use Rattle.abs_cells.specs.Patterns.{Pattern, Patterns, null, leaf, node, variable, none, more}
use Rattle.term_enc.specs.Filling.{IsFilled, AreFilled}

module _ (stands : ℕ → HeapTerm → Type 0) where
  pub null_filled : (t : HeapTerm) → IsFilled stands null t → t ≡ terms.null
  null_filled terms.null h = refl
  null_filled terms.leaf h = absurd h
  null_filled (terms.node class children) h = absurd h

  pub leaf_filled : (t : HeapTerm) → IsFilled stands leaf t → t ≡ terms.leaf
  leaf_filled terms.null h = absurd h
  leaf_filled terms.leaf h = refl
  leaf_filled (terms.node class children) h = absurd h

  pub node_filled : (class : ℕ) (below : Patterns) (t : HeapTerm) → IsFilled stands (node class below) t →
      (children : HeapTerms) × ((t ≡ terms.node class children) × AreFilled stands below children)
  node_filled class below terms.null h = absurd h
  node_filled class below terms.leaf h = absurd h
  node_filled class below (terms.node other children) h = (children, (ap (λ (c : ℕ). terms.node c children) (sym h.0), h.1))

  pub none_filled : (ts : HeapTerms) → AreFilled stands none ts → ts ≡ terms.none
  none_filled terms.none h = refl
  none_filled (terms.more t ts) h = absurd h

  pub more_filled : (pattern : Pattern) (rest : Patterns) (ts : HeapTerms) → AreFilled stands (more pattern rest) ts →
      (t : HeapTerm) × (us : HeapTerms) × ((ts ≡ terms.more t us) × (IsFilled stands pattern t × AreFilled stands rest us))
  more_filled pattern rest terms.none h = absurd h
  more_filled pattern rest (terms.more t us) h = (t, us, (refl, (h.0, h.1)))

-- one term fills a pattern, where one stands for each id
module _ (stands : ℕ → HeapTerm → Type 0) (one : (id : ℕ) (s t : HeapTerm) → stands id s → stands id t → s ≡ t) where
  mutual
    pub one_filling : (pattern : Pattern) (s t : HeapTerm) → IsFilled stands pattern s → IsFilled stands pattern t → s ≡ t
    one_filling null s t h k = null_filled stands s h ∙ sym (null_filled stands t k)
    one_filling leaf s t h k = leaf_filled stands s h ∙ sym (leaf_filled stands t k)
    one_filling (node class below) s t h k =
        let a = node_filled stands class below s h in
        let b = node_filled stands class below t k in
        a.1.0 ∙ ap (terms.node class) (same_fillings below a.0 b.0 a.1.1 b.1.1) ∙ sym b.1.0
    one_filling (variable id) s t h k = one id s t h k

    pub same_fillings : (patterns : Patterns) (ss ts : HeapTerms) → AreFilled stands patterns ss → AreFilled stands patterns ts → ss ≡ ts
    same_fillings none ss ts h k = none_filled stands ss h ∙ sym (none_filled stands ts k)
    same_fillings (more pattern rest) ss ts h k =
        let a = more_filled stands pattern rest ss h in
        let b = more_filled stands pattern rest ts k in
        a.2.0
        ∙ ap (λ (t : HeapTerm). terms.more t a.1) (one_filling pattern a.0 b.0 a.2.1.0 b.2.1.0)
        ∙ ap (terms.more b.0) (same_fillings rest a.1 b.1 a.2.1.1 b.2.1.1)
        ∙ sym b.2.0
