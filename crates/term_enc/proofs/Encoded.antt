-- What is answered of an id, from whether its pattern is small, and what is built.
use Rattle.std.proofs.Common.{◌≡◌, ℕ, zero, suc, ◌≤◌, Bool, true, false, not, List, [], ◌∷◌, Option, Some, None, refl, sym, ap, ◌∙◌, arith}
use Rattle.std.specs.Prelude.{Result, IfOk, IsTrue, ◌↔◌}
use Rattle.std.specs.Option.{option_map, option_and_then}
use Rattle.std.proofs.lemmas.Option.{none-some}
use Rattle.std.proofs.lemmas.Bool.{false≢true}
use Rattle.list_views.proofs.Options.{map_some, then_some, same_answer, one_answer}
use Rattle.jvm_values.proofs.Options.{some_is}
use Rattle.abs_cells.specs.declared.cells.Cell.{Cell}
use Rattle.abs_cells.specs.declared.cells.Cell.TheVariants.{Int, Null, Obj, Nums, Refs, Unk}
use Rattle.abs_cells.specs.AbstractStates.{AbstractState}
use Rattle.abs_cells.specs.Cells.{is_int, cell_in, cell_at, HasCell}
use Rattle.abs_cells.specs.Closures.{IsFiniteId}
use Rattle.abs_cells.specs.Patterns.{Pattern, Patterns, null, leaf, node, variable, with_first, patterns_by, pattern_of_cell}
use Rattle.abs_cells.specs.Patterns.{pattern_within, IsSized}
use Rattle.term_enc.specs.declared.terms.PatternTerm.{PatternTerm}
use Rattle.term_enc.specs.Encoding.{pattern_of, Encodes}
use Rattle.term_enc.specs.inner.Counting.{pattern_in, count_given, IsSmall, IsSmallAnswer}
use Rattle.term_enc.proofs.Built.{weaker}

-- ---- patterns by a state are patterns by its cells

same_patterns : (f g : ℕ → Option (Option Pattern)) → ((id : ℕ) → f id ≡ g id) → (ids : List ℕ) → patterns_by f ids ≡ patterns_by g ids
same_patterns f g h [] = refl
same_patterns f g h (id ∷ ids) = ap (λ (first : Option (Option Pattern)). with_first first (patterns_by f ids)) (h id)
    ∙ ap (with_first (g id)) (same_patterns f g h ids)

same_of_cell : (f g : ℕ → Option (Option Pattern)) → ((id : ℕ) → f id ≡ g id) → (id : ℕ) (cell : Cell)
    → pattern_of_cell f id cell ≡ pattern_of_cell g id cell
same_of_cell f g h id (Int interval) = refl
same_of_cell f g h id Null = refl
same_of_cell f g h id (Obj class ids) = ap (option_map (λ (children : Patterns). Some (node class children))) (same_patterns f g h ids)
same_of_cell f g h id (Nums kind len) = refl
same_of_cell f g h id (Refs element len shape) = refl
same_of_cell f g h id (Unk bound nullable shape) = refl

pub by_cells : (depth : ℕ) (state : AbstractState) (cells : List (ℕ × Cell)) → cells ≡ state.cells → (id : ℕ)
    → pattern_within depth state id ≡ pattern_in depth cells id
by_cells zero state cells e id = refl
by_cells (suc depth) state cells e id =
    same_answer (pattern_of_cell (pattern_within depth state) id) (pattern_of_cell (pattern_in depth cells) id) (cell_at state id)
    (λ cell f. same_of_cell (pattern_within depth state) (pattern_in depth cells) (by_cells depth state cells e) id cell)
    ∙ ap (λ (cs : List (ℕ × Cell)). option_and_then (pattern_of_cell (pattern_in depth cells) id) (cell_in cs id)) (sym e)

-- ---- an id of no int has a pattern or none at all

int_alone : (f : ℕ → Option (Option Pattern)) (id : ℕ) (cell : Cell) → not (is_int cell) ≡ true → pattern_of_cell f id cell ≡ Some None → ⊥
int_alone f id (Int interval) h e = false≢true h
int_alone f id Null h e = none-some null (sym (some_is e))
int_alone f id (Obj class ids) h e = let m = map_some (λ (children : Patterns). Some (node class children)) (patterns_by f ids) None
    e in none-some (node class m.0) (sym m.1.1)
int_alone f id (Nums kind len) h e = none-some leaf (sym (some_is e))
int_alone f id (Refs element len shape) h e = none-some leaf (sym (some_is e))
int_alone f id (Unk bound nullable shape) h e = none-some (variable id) (sym (some_is e))

within_int : (depth : ℕ) (state : AbstractState) (id : ℕ) → HasCell (λ (cell : Cell). not (is_int cell)) state id
    → pattern_within depth state id ≡ Some None → ⊥
within_int zero state id there e = none-some None e
within_int (suc depth) state id there e =
    let c = then_some (pattern_of_cell (pattern_within depth state) id) (cell_at state id) None e in
    int_alone (pattern_within depth state) id c.0
    (ap (λ (cell : Cell). not (is_int cell)) (one_answer (cell_at state id) c.0 there.cell c.1.0 there.is) ∙ there.sort_is) c.1.1

-- ---- answers

-- an id that is sized has a small pattern
pub sized_is_small : (most : ℕ) → most ≡ 4096 → (state : AbstractState) (cells : List (ℕ × Cell)) → cells ≡ state.cells → (id : ℕ)
    → IsSized state id → IsSmall most cells id
sized_is_small most is state cells e id s =
    let small = s.small in
    record {
      given = Some s.pattern;
      is = record { depth = s.is.depth; is = sym (by_cells s.is.depth state cells e id) ∙ s.is.is };
      small = omega (arith, small, is);
    }

pub refused : (most : ℕ) → most ≡ 4096 → (state : AbstractState) (cells : List (ℕ × Cell)) → cells ≡ state.cells
    → (id : ℕ) (small : Bool) →
    (IsTrue small ↔ IsSmall most cells id) → small ≡ false → IsSized state id → ⊥
refused most is state cells e id small says large s = false≢true (sym large ∙ says.1 (sized_is_small most is state cells e id s))

module _ (most : ℕ) (is : most ≡ 4096) (state : AbstractState) (cells : List (ℕ × Cell)) (e : cells ≡ state.cells) (id : ℕ)
    (there : HasCell (λ (cell : Cell). not (is_int cell)) state id) (finite : IsFiniteId state id) where
  found : (depth : ℕ) (given : Option Pattern) (answer : Option PatternTerm) → pattern_within depth state id ≡ Some given
      → count_given given ≤ most →
      given ≡ option_map pattern_of answer → Encodes state id answer
  found depth None answer p l f = absurd (within_int depth state id there p)
  found depth (Some pattern) None p l f = absurd (none-some pattern (sym f))
  found depth (Some pattern) (Some term) p l f =
      let same : pattern ≡ pattern_of term = some_is f in (
        record { finite = finite; pattern = pattern; is = record { depth = depth; is = p }; small = omega (arith, l, is) },
        record { depth = depth; is = p ∙ ap (λ (q : Pattern). Some (Some q)) same },
      )

  pub answered : {E : Type 0} (r : Result (Option PatternTerm) E) → IsSmall most cells id →
      IfOk r (λ (term : Option PatternTerm). IsSmallAnswer most cells id term) →
      IfOk r (λ (answer : Option PatternTerm). Encodes state id answer)
  answered r s h = weaker
      (λ (term : Option PatternTerm). IsSmallAnswer most cells id term)
      (λ (answer : Option PatternTerm). Encodes state id answer)
      (λ answer k. found s.is.depth s.given answer (by_cells s.is.depth state cells e id ∙ s.is.is) s.small (k s.given s.is s.small))
      r h
