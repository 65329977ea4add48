-- The laws, from a state that describes the machine's.
use Rattle.std.proofs.Common.{◌≡◌, ℕ, zero, suc, List, [], ◌∷◌, map, Option, Some, ℤ, pos, negsuc, ◌+ℤ◌, ◌*ℤ◌, sym, ap, subst}
use Rattle.std.proofs.Common.{arith, refl, ◌∙◌, cond, eqb, true, false, Bool}
use Rattle.std.specs.Prelude.{All}
use Rattle.std.proofs.lemmas.Int.{ints}
use Rattle.std.proofs.lemmas.Bool.{eqb-true}
use Rattle.std.proofs.lemmas.Option.{none-some}
use Rattle.std.proofs.lemmas.List.Elements.{All-head, All-tail}
use Rattle.list_views.proofs.Options.{then_some}
use Rattle.lin_core.specs.Rows.{value_of_terms, Holds}
use Rattle.lin_core.specs.Weights.{row_under}
use Rattle.jvm_values.specs.declared.heap.Heap.{Heap}
use Rattle.jvm_values.specs.States.{MachineState}
use Rattle.jvm_values.specs.TypedHeaps.{WorldTypes}
use Rattle.jvm_values.specs.Terms.{HeapTerm, IsTerm}
use Rattle.jvm_values.proofs.Options.{some_is}
use Rattle.abs_reach.specs.JvmHeapsAcyclicTerms.{HasTerm}
use Rattle.abs_reach.proofs.JvmHeapsTermLaws.{acyclic_terms}
use Rattle.abs_cells.specs.AbstractStates.{AbstractState}
use Rattle.abs_cells.specs.Cells.{cell_at, HasCell}
use Rattle.abs_cells.specs.Fits.{Meaning}
use Rattle.abs_cells.specs.Patterns.{Pattern, pattern_of_cell, pattern_within}
use Rattle.abs_reach.specs.Instances.{image_in}
use Rattle.abs_reach.proofs.Sound.{finite}
use Rattle.term_enc.specs.Filling.{IsFilled, IsTermOf, HasTermByPattern}
use Rattle.term_enc.specs.Sizes.{weight_of, Weighs, variables_in, classes_in, each_times, size_terms, size_weights, size_row}
use Rattle.term_enc.specs.Laws.{IsDescribed, IsSizedBy, HaveWeights, TermsFillPatterns, SizesAreOfPatterns, SizesAreWeights}
use Rattle.term_enc.specs.Laws.{EdgeSizesAreRows, InstanceSizesAreRows}
use Rattle.term_enc.proofs.OneTerm.{one_term}
use Rattle.term_enc.proofs.Fillings.{one_filling}
use Rattle.term_enc.proofs.Unfolded.{within_no_int, unfolded}
use Rattle.term_enc.proofs.Summed.{sum_over, sum_mapped, collected_value, each_once, each_less}
use Rattle.term_enc.proofs.Weighed.{weighed, size_weighs, weigh_alike}

-- an id with a pattern has a cell
has_cell : (state : AbstractState) (depth id : ℕ) (given : Option Pattern) → pattern_within depth state id ≡ Some given
    → HasCell (λ _. true) state id
has_cell state zero id given e = absurd (none-some given e)
has_cell state (suc depth) id given e =
    let c = then_some (pattern_of_cell (pattern_within depth state) id) (cell_at state id) given e in
    record { cell = c.0; is = c.1.0; sort_is = refl }

module _ (types : WorldTypes) (state : AbstractState) (machine : MachineState) (meaning : Meaning)
    (d : IsDescribed types state machine meaning) (id : ℕ)
    (pattern : Pattern) (s : IsSizedBy state id pattern) where
  there : HasCell (λ _. true) state id
  there = has_cell state s.is.depth id (Some pattern) s.is.is

  has_term : HasTerm machine.heap (meaning id)
  has_term =
      acyclic_terms machine.heap (meaning id) d.closed.heap (d.closed.ids id there)
      (within_no_int types state machine meaning d.fits s.is.depth id pattern s.is.is)
      (finite types state machine meaning d.good d.fits id there s.sized.finite)

  fills : (term : HeapTerm) → IsTerm machine.heap (meaning id) term → IsFilled (IsTermOf machine.heap meaning) pattern term
  fills term t = unfolded types state machine meaning d.fits s.is.depth t.depth id pattern term s.is.is t.acyclic t.is

  is_filled : (term : HeapTerm) → IsFilled (IsTermOf machine.heap meaning) pattern term → IsTerm machine.heap (meaning id) term
  is_filled term f =
      let h = has_term in
      subst (λ (t : HeapTerm). IsTerm machine.heap (meaning id) t)
      (one_filling (IsTermOf machine.heap meaning) (λ y a b p q. one_term machine.heap (meaning y) a b p q) pattern h.0 term
      (fills h.0 h.1) f)
      h.1

  pub has_term_by : HasTermByPattern machine.heap meaning id pattern
  has_term_by = record { has = has_term; is = λ term. (fills term, is_filled term) }

  -- what its term weighs
  pub weighs : (weigh numbers : ℕ → ℤ) (place : ℕ → ℕ) → HaveWeights weigh machine meaning numbers place pattern → (term : HeapTerm) →
      IsTerm machine.heap (meaning id) term → weight_of weigh term ≡ sum_over numbers (map place (variables_in pattern)) +ℤ sum_over
      weigh (classes_in pattern)
  weighs weigh numbers place all term t =
      weighed weigh (λ (y : ℕ). numbers (place y)) machine.heap meaning pattern term (fills term t) all
      ∙ ap (λ (z : ℤ). z +ℤ sum_over weigh (classes_in pattern)) (sym (sum_mapped numbers place (variables_in pattern)))

pub terms_fill : TermsFillPatterns
terms_fill types state machine meaning d id pattern s = has_term_by types state machine meaning d id pattern s

pub sizes_weigh : SizesAreWeights
sizes_weigh weights term = size_weighs weights term

both : (a b c d : ℤ) → a ≡ b → c ≡ d → b +ℤ d ≡ a +ℤ c
both a b c d e f = omega (arith, ints, e, f)

pub sizes_are : SizesAreOfPatterns
sizes_are types state machine meaning d id pattern s weigh numbers place all term t =
    weighs types state machine meaning d id pattern s weigh numbers place all term t
    ∙ both (value_of_terms numbers (size_terms place pattern)) (sum_over numbers (map place (variables_in pattern)))
    (value_of_terms weigh (size_weights pattern))
    (sum_over weigh (classes_in pattern))
    (collected_value numbers (each_times (pos 1) (map place (variables_in pattern)))
    ∙ each_once numbers (map place (variables_in pattern)))
    (collected_value weigh (each_times (pos 1) (classes_in pattern)) ∙ each_once weigh (classes_in pattern))

-- ---- rows

cancels : (v a b m n t w : ℤ) → v ≡ a +ℤ b → m +ℤ a ≡ pos 0 → n +ℤ b ≡ pos 0 → t ≡ pos 1 *ℤ v +ℤ m → w ≡ n → t +ℤ (pos 0 +ℤ w) ≡ pos 0
cancels v a b m n t w e f g h k = omega (arith, ints, e, f, g, h, k)

-- the row of a size holds where its variable has the size
pub row_holds : (weigh numbers : ℕ → ℤ) (v : ℕ) (place : ℕ → ℕ) (pattern : Pattern) →
    numbers v ≡ sum_over numbers (map place (variables_in pattern)) +ℤ sum_over weigh (classes_in pattern)
    → Holds numbers (row_under weigh (size_row v place pattern))
row_holds weigh numbers v place pattern e =
    cancels (numbers v) (sum_over numbers (map place (variables_in pattern))) (sum_over weigh (classes_in pattern))
    (value_of_terms numbers (each_times (negsuc 0) (map place (variables_in pattern))))
    (value_of_terms weigh (each_times (negsuc 0) (classes_in pattern))) _ _ e
    (each_less numbers (map place (variables_in pattern))) (each_less weigh (classes_in pattern))
    (collected_value numbers ((v, pos 1) ∷ each_times (negsuc 0) (map place (variables_in pattern))))
    (collected_value weigh (each_times (negsuc 0) (classes_in pattern)))

pub edge_rows : EdgeSizesAreRows
edge_rows types state child machine after meaning meaning_after link edge d id pattern variable s weigh numbers v place positive w all =
    let has = (has_term_by types child after meaning_after d _ pattern s).has in
    let same : weight_of weigh w.term ≡ weight_of weigh has.0 = weigh_alike weigh positive w.term has.0
    (λ weights. edge.sizes id variable s.sized weights w.term has.0 w.is has.1) in
    row_holds weigh numbers v place pattern (w.number_is ∙ same ∙ weighs types child after meaning_after d _ pattern s weigh numbers
    place all has.0 has.1)

entry_at : (P : ℕ × ℕ → Type 0) (entry : ℕ × ℕ) (entries : List (ℕ × ℕ)) (id image : ℕ) (same : Bool) → eqb entry.0 id ≡ same
    → All P (entry ∷ entries) →
    cond same (Some entry.1) (image_in entries id) ≡ Some image → (image_in entries id ≡ Some image → P (id, image)) → P (id, image)
entry_at P entry entries id image true s all e h =
    let first : entry.0 ≡ id = eqb-true entry.0 id s in
    let second : entry.1 ≡ image = some_is e in
    subst (λ (i : ℕ). P (id, i)) second (subst (λ (i : ℕ). P (i, entry.1)) first (All-head P entry entries all))
entry_at P entry entries id image false s all e h = h e

-- a map's entry for an id
image_entry : (P : ℕ × ℕ → Type 0) (entries : List (ℕ × ℕ)) (id image : ℕ) → All P entries → image_in entries id ≡ Some image
    → P (id, image)
image_entry P [] id image all e = absurd (none-some image e)
image_entry P (entry ∷ entries) id image all e = entry_at P entry entries id image (eqb entry.0 id) refl all e
    (image_entry P entries id image (All-tail P entry entries all))

moved : (weigh : ℕ → ℤ) (heap before : Heap) (value other : _) (n : ℤ) → heap ≡ before → value ≡ other → Weighs weigh heap value n
    → Weighs weigh before other n
moved weigh heap before value other n e f w = record {
  term = w.term;
  is = subst (λ (v : _). IsTerm before v w.term) f (subst (λ (h : Heap). IsTerm h value w.term) e w.is);
  number_is = w.number_is;
}

pub instance_rows : InstanceSizesAreRows
instance_rows types state entries machine after meaning meaning_after edge d id image pattern e s weigh numbers v place w all =
    let there = image_entry (λ (entry : ℕ × ℕ). meaning_after entry.0 ≡ meaning entry.1) entries id image edge.images e in
    let m = moved weigh after.heap machine.heap (meaning_after id) (meaning image) (numbers v)
    (ap (λ (x : MachineState). x.heap) edge.same) there w in
    row_holds weigh numbers v place pattern (m.number_is ∙ weighs types state machine meaning d image pattern s weigh numbers place
    all m.term m.is)
