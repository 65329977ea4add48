-- The sized ids of a state, each with its pattern.
use Rattle.std.proofs.Common.{◌≡◌, ℕ, zero, suc, ◌≤◌, Bool, true, false, cond, eqb, List, [], ◌∷◌, ◌++◌, map, Option}
use Rattle.std.proofs.Common.{Some, None, refl, sym, ap, ◌∙◌, arith}
use Rattle.std.specs.Prelude.{nat_lt, not, Result, Ok, Err, IfOk}
use Rattle.std.specs.List.{AllZip, AllByRecursion}
use Rattle.std.specs.Option.{option_map}
use Rattle.std.proofs.lemmas.Bool.{false≢true, eqb-true, eq-eqb, ltb-true, ltb-false}
use Rattle.std.proofs.lemmas.Option.{none-some}
use Rattle.list_views.proofs.Options.{then_some, one_answer}
use Rattle.jvm_values.proofs.Options.{some_is}
use Rattle.abs_cells.specs.declared.cells.Cell.{Cell}
use Rattle.abs_cells.specs.declared.cells.Cell.TheVariants.{Int, Null, Obj, Nums, Refs, Unk}
use Rattle.abs_cells.specs.AbstractStates.{AbstractState}
use Rattle.abs_cells.specs.Cells.{is_int, cell_in, cell_at, HasCell}
use Rattle.abs_cells.specs.Patterns.{Pattern, count_in, pattern_of_cell, pattern_within, IsPattern, IsSized}
use Rattle.abs_cells.specs.Sound.{IsWellFormed, AreIdsRising}
use Rattle.abs_cells.proofs.CellLaws.{low_of_cell}
use Rattle.abs_cells.proofs.PatternLaws.{one_pattern}
use Rattle.term_graph.specs.Graphs.{GraphNode}
use Rattle.term_enc.specs.declared.terms.PatternTerm.{PatternTerm}
use Rattle.term_enc.specs.Encoding.{pattern_of, Encodes}
use Rattle.term_enc.specs.Laws.{IsSizedBy}
use Rattle.term_enc.proofs.Encoded.{by_cells}
use Rattle.term_enc.proofs.Shallow.{small_at}
use Rattle.abs_reach.specs.Keys.{AreKeysRising}
use Rattle.path_rules.specs.Stops.{pattern_in, AreSizes}
use Rattle.path_rules.specs.Sizing.{is_finite_id, small_pattern, size_within, size_at}
use Rattle.path_rules.specs.inner.Sizing.{entry_of, sizes_in, sizes_of}
use Rattle.path_rules.proofs.Finite.{is_finite, not_finite}

-- ---- one id

pub record IsSmallSize (most : ℕ) (state : AbstractState) (id : ℕ) (pattern : Pattern) : Type 0 where
  pub sized : IsSizedBy state id pattern
  pub small : count_in pattern ≤ most

module _ (most : ℕ) (is : most ≡ 4096) (state : AbstractState) (id : ℕ) where
  found : (pattern : Pattern) → is_finite_id state id ≡ true → (o : Option (Option Pattern))
      → pattern_within (suc most) state id ≡ o → small_pattern most o ≡ Some pattern → IsSmallSize most state id pattern
  found pattern f None w k = absurd (none-some pattern k)
  found pattern f (Some None) w k = absurd (none-some pattern k)
  found pattern f (Some (Some p)) w k = at (nat_lt most (count_in p)) refl k
    where
      at : (b : Bool) → nat_lt most (count_in p) ≡ b → cond b None (Some p) ≡ Some pattern → IsSmallSize most state id pattern
      at true l h = absurd (none-some pattern h)
      at false l h =
          let same : p ≡ pattern = some_is h in
          let few = ltb-false most (count_in p) l in
          let count = ap count_in same in
          let whole : IsPattern state id pattern = record { depth = suc most; is = w ∙ ap (λ (q : Pattern). Some (Some q)) same } in
          record {
            sized = record {
              sized = record
                  { finite = is_finite state id f; pattern = pattern; is = whole; small = omega (arith, few, count, is) };
              is = whole;
            };
            small = omega (arith, few, count);
          }

  some_within : (pattern : Pattern) → size_within most state id ≡ Some pattern → IsSmallSize most state id pattern
  some_within pattern e = at (is_finite_id state id) refl e
    where
      at : (b : Bool) → is_finite_id state id ≡ b → cond b (small_pattern most (pattern_within (suc most) state id)) None ≡ Some
          pattern → IsSmallSize most state id pattern
      at true f k = found pattern f (pattern_within (suc most) state id) refl k
      at false f k = absurd (none-some pattern k)

  none_within : size_within most state id ≡ None → IsSized state id → ⊥
  none_within e s = at (is_finite_id state id) refl e
    where
      whole : pattern_within (suc most) state id ≡ Some (Some s.pattern)
      whole =
          let small = s.small in
          by_cells (suc most) state state.cells refl id
          ∙ small_at most state.cells id (record {
            given = Some s.pattern;
            is = record { depth = s.is.depth; is = sym (by_cells s.is.depth state state.cells refl id) ∙ s.is.is };
            small = omega (arith, small, is);
          })

      at : (b : Bool) → is_finite_id state id ≡ b → cond b (small_pattern most (pattern_within (suc most) state id)) None ≡ None → ⊥
      at true f k = by (nat_lt most (count_in s.pattern)) refl (ap (small_pattern most) (sym whole) ∙ k)
        where
          by : (b : Bool) → nat_lt most (count_in s.pattern) ≡ b → cond b None (Some s.pattern) ≡ None → ⊥
          by true l h = let few = s.small in let many = ltb-true most (count_in s.pattern) l in omega (arith, few, many, is)
          by false l h = none-some s.pattern (sym h)
      at false f k = not_finite state id f s.finite

pub size_some : (state : AbstractState) (id : ℕ) (pattern : Pattern) → size_at state id ≡ Some pattern → IsSmallSize 4096 state id pattern
unfolding size_at
size_some state id pattern e = some_within 4096 refl state id pattern e

pub size_none : (state : AbstractState) (id : ℕ) → size_at state id ≡ None → IsSized state id → ⊥
unfolding size_at
size_none state id e = none_within 4096 refl state id e

-- ---- ids without a size

cell_of_pattern : (f : ℕ → Option (Option Pattern)) (id : ℕ) (cell : Cell) (pattern : Pattern)
    → pattern_of_cell f id cell ≡ Some (Some pattern) → not (is_int cell) ≡ true
cell_of_pattern f id (Int interval) pattern e = absurd (none-some pattern (some_is e))
cell_of_pattern f id Null pattern e = refl
cell_of_pattern f id (Obj class ids) pattern e = refl
cell_of_pattern f id (Nums kind len) pattern e = refl
cell_of_pattern f id (Refs element len shape) pattern e = refl
cell_of_pattern f id (Unk bound nullable shape) pattern e = refl

pub has_no_int : (state : AbstractState) (id : ℕ) (pattern : Pattern) → IsPattern state id pattern
    → HasCell (λ (cell : Cell). not (is_int cell)) state id
has_no_int state id pattern is = at is.depth is.is
  where
    at : (depth : ℕ) → pattern_within depth state id ≡ Some (Some pattern) → HasCell (λ (cell : Cell). not (is_int cell)) state id
    at zero e = absurd (none-some (Some pattern) e)
    at (suc depth) e =
        let c = then_some (pattern_of_cell (pattern_within depth state) id) (cell_at state id) (Some pattern) e in
        record { cell = c.0; is = c.1.0; sort_is = cell_of_pattern (pattern_within depth state) id c.0 pattern c.1.1 }

-- an int has no size, and neither has what isn't there
pub int_unsized : (state : AbstractState) (id : ℕ) (cell : Cell) → cell_at state id ≡ Some cell → is_int cell ≡ true
    → None ≡ size_at state id
int_unsized state id cell e t = by (size_at state id) refl
  where
    by : (o : Option Pattern) → size_at state id ≡ o → None ≡ size_at state id
    by None k = sym k
    by (Some pattern) k =
        let has = has_no_int state id pattern (size_some state id pattern k).sized.is in
        let same = one_answer (cell_at state id) has.cell cell has.is e in
        absurd (false≢true (ap not (sym (ap is_int same ∙ t)) ∙ has.sort_is))

pub missing_unsized : (state : AbstractState) (id : ℕ) → cell_at state id ≡ None → None ≡ size_at state id
missing_unsized state id e = by (size_at state id) refl
  where
    by : (o : Option Pattern) → size_at state id ≡ o → None ≡ size_at state id
    by None k = sym k
    by (Some pattern) k = let has = has_no_int state id pattern (size_some state id pattern k).sized.is in absurd
        (none-some has.cell (sym e ∙ has.is))

-- ---- what is answered of an id

encoded_is : (state : AbstractState) (id : ℕ) (answer : Option PatternTerm) (o : Option Pattern) → size_at state id ≡ o
    → Encodes state id answer → option_map pattern_of answer ≡ o
encoded_is state id None None e h = refl
encoded_is state id None (Some pattern) e h = absurd (h (size_some state id pattern e).sized.sized)
encoded_is state id (Some term) None e h = absurd (size_none state id e h.0)
encoded_is state id (Some term) (Some pattern) e h = ap Some
    (one_pattern state id (pattern_of term) pattern h.1 (size_some state id pattern e).sized.is)

pub encoded : {E : Type 0} (state : AbstractState) (id : ℕ) (r : Result (Option PatternTerm) E)
    → IfOk r (λ (answer : Option PatternTerm). Encodes state id answer)
    → IfOk r (λ (answer : Option PatternTerm). option_map pattern_of answer ≡ size_at state id)
encoded state id (Ok answer) h = encoded_is state id answer (size_at state id) refl h
encoded state id (Err e) h = h

pub size_small : (state : AbstractState) (id : ℕ) (term : PatternTerm) → option_map pattern_of (Some term) ≡ size_at state id
    → count_in (pattern_of term) ≤ 4096
size_small state id term e = (size_some state id (pattern_of term) (sym e)).small

-- ---- the list

past_entry : (id : ℕ) (other : ℕ) (o : Option Pattern) (rest : List (ℕ × Pattern)) → eqb id other ≡ false
    → pattern_in (entry_of id o ++ rest) other ≡ pattern_in rest other
past_entry id other None rest e = refl
past_entry id other (Some pattern) rest e = ap (λ (b : Bool). cond b (Some pattern) (pattern_in rest other)) e

module _ (size : ℕ → Option Pattern) where
  unlisted : (cells : List (ℕ × Cell)) (id : ℕ) → cell_in cells id ≡ None → pattern_in (sizes_in size cells) id ≡ None
  unlisted [] id e = refl
  unlisted (c ∷ cells) id e = at (eqb c.0 id) refl e (λ k. unlisted cells id k)
    where
      at : (b : Bool) → eqb c.0 id ≡ b → cond b (Some c.1) (cell_in cells id) ≡ None
          → (cell_in cells id ≡ None → pattern_in (sizes_in size cells) id ≡ None) → pattern_in (sizes_in size (c ∷ cells)) id ≡ None
      at true h k later = absurd (none-some c.1 (sym k))
      at false h k later = past_entry c.0 id (size c.0) (sizes_in size cells) h ∙ later k

  not_later : (c : ℕ × Cell) (cells : List (ℕ × Cell)) (id : ℕ) → AreIdsRising (suc c.0) cells → c.0 ≡ id → cell_in cells id ≡ None
  not_later c cells id rising same = by (cell_in cells id) refl
    where
      by : (o : Option Cell) → cell_in cells id ≡ o → cell_in cells id ≡ None
      by None e = e
      by (Some cell) e = let l = low_of_cell (suc c.0) id cells cell rising e in absurd (omega (arith, l, same))

  first_entry : (id other : ℕ) (o : Option Pattern) (rest : List (ℕ × Pattern)) → id ≡ other → size id ≡ o
      → pattern_in rest other ≡ None → pattern_in (entry_of id o ++ rest) other ≡ size other
  first_entry id other None rest same e none = none ∙ (sym e ∙ ap size same)
  first_entry id other (Some pattern) rest same e none = ap (λ (b : Bool). cond b (Some pattern) (pattern_in rest other))
      (eq-eqb id other same) ∙ (sym e ∙ ap size same)

  listed : (low : ℕ) (cells : List (ℕ × Cell)) (id : ℕ) (cell : Cell) → AreIdsRising low cells → cell_in cells id ≡ Some cell
      → pattern_in (sizes_in size cells) id ≡ size id
  listed low [] id cell rising e = absurd (none-some cell e)
  listed low (c ∷ cells) id cell rising e = at (eqb c.0 id) refl e (λ k. listed (suc c.0) cells id cell rising.1.1 k)
    where
      at : (b : Bool) → eqb c.0 id ≡ b → cond b (Some c.1) (cell_in cells id) ≡ Some cell
          → (cell_in cells id ≡ Some cell → pattern_in (sizes_in size cells) id ≡ size id)
          → pattern_in (sizes_in size (c ∷ cells)) id ≡ size id
      at true h k later = let same = eqb-true c.0 id h in first_entry c.0 id (size c.0) (sizes_in size cells) same refl
          (unlisted cells id (not_later c cells id rising.1.1 same))
      at false h k later = past_entry c.0 id (size c.0) (sizes_in size cells) h ∙ later k

  lower : (low high : ℕ) (list : List (ℕ × Pattern)) → low ≤ high → AreKeysRising high list → AreKeysRising low list
  lower low high [] l rise = tt
  lower low high (entry ∷ list) l rise = let k = rise.0 in (omega (arith, k, l), rise.1)

  rise_on : (low id : ℕ) (o : Option Pattern) (rest : List (ℕ × Pattern)) → low ≤ id → AreKeysRising (suc id) rest
      → AreKeysRising low (entry_of id o ++ rest)
  rise_on low id None rest l rise = lower low (suc id) rest (omega (arith, l)) rise
  rise_on low id (Some pattern) rest l rise = (l, rise)

  all_rise : (low : ℕ) (cells : List (ℕ × Cell)) → AreIdsRising low cells → AreKeysRising low (sizes_in size cells)
  all_rise low [] rising = tt
  all_rise low (c ∷ cells) rising = rise_on low c.0 (size c.0) (sizes_in size cells) rising.0 (all_rise (suc c.0) cells rising.1.1)

pub sizes_at : (state : AbstractState) (id : ℕ) → AreIdsRising 0 state.cells → pattern_in (sizes_of state) id ≡ size_at state id
sizes_at state id rising = by (cell_at state id) refl
  where
    by : (o : Option Cell) → cell_at state id ≡ o → pattern_in (sizes_of state) id ≡ size_at state id
    by None e = unlisted (size_at state) state.cells id e ∙ missing_unsized state id e
    by (Some cell) e = listed (size_at state) 0 state.cells id cell rising e

pub are_sizes : (state : AbstractState) → AreIdsRising 0 state.cells → AreSizes state (sizes_of state)
are_sizes state rising = record {
  rise = all_rise (size_at state) 0 state.cells rising;
  each = λ id pattern e.
      let s = size_some state id pattern (sym (sizes_at state id rising) ∙ e) in
      (has_no_int state id pattern s.sized.is, (s.sized.sized, s.sized.is));
  all = λ id has sized e. size_none state id (sym (sizes_at state id rising) ∙ e) sized;
}

pub all_sizes : (graph : List GraphNode) → AllByRecursion (λ (n : GraphNode). IsWellFormed n.state) graph
    → AllZip (λ (n : GraphNode) (s : List (ℕ × Pattern)). AreSizes n.state s) graph (map (λ (n : GraphNode). sizes_of n.state) graph)
all_sizes [] well = tt
all_sizes (n ∷ graph) well = (are_sizes n.state well.0.rising, all_sizes graph well.1)
