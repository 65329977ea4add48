-- No child of a state that is expanded has more than 512 ids.
use Rattle.std.proofs.Common.{◌≡◌, ◌∙◌, ◌≤◌, ◌+◌, ◌-◌, ◌⊎◌, inl, inr, ℕ, Bool, true, false, cond, eqb, List, [], ◌∷◌}
use Rattle.std.proofs.Common.{length, map, Option, Some, None, refl, sym, subst, arith}
use Rattle.std.specs.Prelude.{zip, option_map}
use Rattle.std.specs.List.{AllByRecursion, AllZip}
use Rattle.std.proofs.lemmas.Bool.{eqb-true}
use Rattle.std.proofs.lemmas.List.Elements.{recursion_from_All}
use Rattle.std.proofs.lemmas.Option.{none-some}
use Rattle.list_views.proofs.Items.{length_mapped}
use Rattle.jvm_values.specs.declared.shape.Shape.{Shape}
use Rattle.jvm_values.specs.declared.types.Ty.{Ty}
use Rattle.jvm_values.specs.TypedHeaps.{WorldTypes}
use Rattle.abs_cells.specs.declared.cells.Cell.{Cell}
use Rattle.abs_cells.specs.declared.cells.Cell.TheVariants as cells
use Rattle.abs_cells.specs.AbstractStates.{AbstractState}
use Rattle.abs_cells.specs.Cells.{are_compatible, cell_in, cell_at}
use Rattle.abs_cells.specs.Sound.{AreIdsRising}
use Rattle.abs_heap.specs.Answers.{AreNullChildren, AreClassChildren, AreEqualAnswers}
use Rattle.abs_heap.specs.Counts.{new_ids, case_counts, AreFew}
use Rattle.abs_heap.specs.Given.{with_cells}
use Rattle.abs_heap.specs.Names.{one_name, cell_named}
use Rattle.abs_heap.specs.Laws.{plain_link}
use Rattle.abs_heap.specs.Refining.{Case, instance, numbers, references, IsCase, cases_of, cell_of_slot, length_cell, IsMergedChild}
use Rattle.abs_heap.specs.Refining.{merged_cell}
use Rattle.abs_heap.specs.Refining.{IsApartChild, IsEqualChild}
use Rattle.abs_heap.specs.Refining.IsEqualChild.{both, alone}
use Rattle.abs_heap.specs.Writing.{cell_after, shape_after, zero_cell, array_cell}
use Rattle.abs_turns.specs.GoodPlans.{IsChange, IsGoodTurn, IsGoodPlan}
use Rattle.abs_turns.specs.Plans.{Act, nothing, makes, writes, item, object, array, Goal, nowhere, on_stack, in_local, in_bottom}
use Rattle.abs_turns.specs.Plans.{in_field, is_thrown, Turn, Plan, ends, steps, by_null, by_class, by_equal, ids_made}
use Rattle.abs_expand.specs.Children.{IsActed, field_with, gone_to, IsTurnChild, IsLean}
use Rattle.abs_expand.specs.Expansions.{AreChildren, AreExpanded, class_counts, equal_counts, counts_of}
use Rattle.term_graph.specs.Graphs.{GraphChild}
use Rattle.descent.specs.Splits.{has}
use Rattle.prove_core.proofs.IdCounts.{keys, own_key, Holds, few_of, own, given, first_old, dropped, zip_few}

abbrev IsSmall : GraphChild → Type 0
IsSmall child = length child.state.cells ≤ 512

abbrev IsSmallWhole : GraphChild → Type 0
IsSmallWhole child = Holds 512 child.state

raised : (count most : ℕ) (state : AbstractState) → count ≤ most → Holds count state → Holds most state
raised count most state low h = let few = h.few in record { ids = h.ids; few = omega (arith, few, low); within = h.within }

wholes_small : (wholes children : List GraphChild) → AllByRecursion IsSmallWhole wholes → AllZip IsLean wholes children
    → AllByRecursion IsSmall children
wholes_small [] [] all lean = tt
wholes_small [] (child ∷ children) all lean = absurd lean
wholes_small (whole ∷ wholes) [] all lean = absurd lean
wholes_small (whole ∷ wholes) (child ∷ children) all lean =
    (dropped 512 whole.state child.state all.0 lean.0.dropped lean.0.rising, wholes_small wholes children all.1 lean.1)

-- ---- steps

-- of a list of changes every id is there
change_old : (state : AbstractState) (changes : List (ℕ × Cell)) → AllByRecursion (IsChange state) changes → (id : ℕ) (cell : Cell)
    → cell_in changes id ≡ Some cell → (old : Cell) × (cell_at state id ≡ Some old)
change_old state [] all id cell e = absurd (none-some cell e)
change_old state (c ∷ changes) all id cell e = go (eqb c.0 id) refl e (change_old state changes all.1 id cell)
  where
    go : (b : Bool) → eqb c.0 id ≡ b → cond b (Some c.1) (cell_in changes id) ≡ Some cell
        → (cell_in changes id ≡ Some cell → (old : Cell) × (cell_at state id ≡ Some old)) → (old : Cell) × (cell_at state id ≡ Some old)
    go true f g later = (all.0.old.cell, subst (λ (n : ℕ). cell_at state n ≡ Some all.0.old.cell) (eqb-true c.0 id f) all.0.old.is)
    go false f g later = later g

-- all new
new_ones : (state : AbstractState) (new : List (ℕ × Cell)) (id : ℕ) (cell : Cell) → cell_in new id ≡ Some cell
    → ((old : Cell) × (cell_at state id ≡ Some old)) ⊎ ((c : Cell) × (cell_in new id ≡ Some c))
new_ones state new id cell e = inr (cell, e)

acted_holds : (types : WorldTypes) (act : Act) (id count : ℕ) (state after : AbstractState) → AreIdsRising 0 state.cells
    → Holds count state → IsActed types act id state after → Holds (count + ids_made types act) after
acted_holds types nothing id count state after rise h is =
    let same = raised count (count + 0) state (omega arith) h in
    subst (Holds (count + 0)) (sym is) same
acted_holds types (makes cell) id count state after rise h is =
    given count 1 state after ((id, cell) ∷ []) ((id, cell) ∷ []) h (omega arith) is.1.cells (new_ones state ((id, cell) ∷ []))
acted_holds types (writes write) id count state after rise h is =
    let named = map (cell_after is.names (shape_after is.null is.no_cycle) write) state.cells in
    let long = length_mapped (cell_after is.names (shape_after is.null is.no_cycle) write) state.cells in
    let keyed = length_mapped (λ (c : ℕ × Cell). c.0) named in
    let most = few_of state h.ids rise h.within in
    let few = h.few in
    record {
      ids = keys named;
      few = omega (arith, long, keyed, most, few);
      within = λ n cell e. own_key named n cell (sym (is.is.cells n) ∙ e);
    }
acted_holds types (item k) id count state after rise h is =
    given count 1 state after ((id, cells.Unk is.0 true is.2) ∷ []) ((id, cells.Unk is.0 true is.2) ∷ []) h (omega arith)
    is.3.1.is.cells (new_ones state ((id, cells.Unk is.0 true is.2) ∷ []))
acted_holds types (object class) id count state after rise h is =
    let fields = zip is.ids (map zero_cell (types.fields class)) in
    let new = (id, cells.Obj class is.ids) ∷ fields in
    let few = zip_few is.ids (map zero_cell (types.fields class)) in
    let many = is.count in
    given count (1 + length (types.fields class)) state after new new h (omega (arith, few, many)) is.is.cells (new_ones state new)
acted_holds types (array slot len) id count state after rise h is =
    let new = (id, array_cell types.erase slot len) ∷ [] in
    given count 1 state after new new h (omega arith) is.is.cells (new_ones state new)

fields_kept : (k place id : ℕ) (listed : List (ℕ × Cell)) (n : ℕ) (cell : Cell)
    → cell_in (map (field_with k place id) listed) n ≡ Some cell → (old : Cell) × (cell_in listed n ≡ Some old)
fields_kept k place id [] n cell e = absurd (none-some cell e)
fields_kept k place id (c ∷ listed) n cell e = go (eqb c.0 n) e (fields_kept k place id listed n cell)
  where
    go : (b : Bool) → cond b (Some (field_with k place id c).1) (cell_in (map (field_with k place id) listed) n) ≡ Some cell
        → (cell_in (map (field_with k place id) listed) n ≡ Some cell → (old : Cell) × (cell_in listed n ≡ Some old))
        → (old : Cell) × (cond b (Some c.1) (cell_in listed n) ≡ Some old)
    go true f later = (c.1, refl)
    go false f later = later f

gone_holds : (goal : Goal) (id count : ℕ) (state : AbstractState) → Holds count state → Holds count (gone_to goal id state)
gone_holds nowhere id count state h = h
gone_holds on_stack id count state h = record { ids = h.ids; few = h.few; within = h.within }
gone_holds (in_local n) id count state h = record { ids = h.ids; few = h.few; within = h.within }
gone_holds (in_bottom n) id count state h = record { ids = h.ids; few = h.few; within = h.within }
gone_holds (in_field k place) id count state h = record {
  ids = h.ids;
  few = h.few;
  within = λ n cell e. let old = fields_kept k place id state.cells n cell e in h.within n old.0 old.1;
}
gone_holds is_thrown id count state h = record { ids = h.ids; few = h.few; within = h.within }

module _ (types : WorldTypes) (state : AbstractState) where
  abbrev Count : ℕ
  Count = length state.cells

  turn_holds : (turn : Turn) (child : GraphChild) → IsGoodTurn types state turn → IsTurnChild types state turn child
      → Holds (Count + ids_made types turn.act) child.state
  turn_holds turn child good is =
      let changed = given Count 0 state is.changed turn.changed [] (own state) (omega arith) is.is_changed.cells
      (λ id cell e. inl (change_old state turn.changed good.changed id cell e)) in
      let acted = acted_holds types turn.act is.id Count is.changed is.acted is.is_changed.rising
      (raised (Count + 0) Count is.changed (omega arith) changed) is.is_acted in
      subst (Holds (Count + ids_made types turn.act)) (sym is.is)
      (gone_holds turn.goal is.id (Count + ids_made types turn.act) is.acted acted)

  turns_small : (turns : List Turn) (wholes : List GraphChild) → AllByRecursion (IsGoodTurn types state) turns
      → AllByRecursion (λ (n : ℕ). n ≤ 512) (map (λ (turn : Turn). Count + ids_made types turn.act) turns)
      → AllZip (IsTurnChild types state) turns wholes → AllByRecursion IsSmallWhole wholes
  turns_small [] [] good few is = tt
  turns_small [] (child ∷ wholes) good few is = absurd is
  turns_small (turn ∷ turns) [] good few is = absurd is
  turns_small (turn ∷ turns) (child ∷ wholes) good few is = (
    raised (Count + ids_made types turn.act) 512 child.state few.0 (turn_holds turn child good.0 is.0),
    turns_small turns wholes good.1 few.1 is.1,
  )

  -- ---- splits

  -- a cell of an id that is there becomes another one, and there are more
  split_holds : (more x : ℕ) (cell old : Cell) (new : List (ℕ × Cell)) (child : AbstractState) → length new ≤ more
      → cell_at state x ≡ Some old → ((id : ℕ) → cell_at child id ≡ with_cells ((x, cell) ∷ new) state id) → Holds (Count + more) child
  split_holds more x cell old new child few was given_cells =
      given Count more state child ((x, cell) ∷ new) new (own state) few given_cells (first_old x cell old state new was)

  with_cell : (x : ℕ) (cell old : Cell) (child : AbstractState) → Count ≤ 512 → cell_at state x ≡ Some old
      → ((id : ℕ) → cell_at child id ≡ with_cells ((x, cell) ∷ []) state id) → Holds 512 child
  with_cell x cell old child few was given_cells = raised (Count + 0) 512 child (omega (arith, few))
      (split_holds 0 x cell old [] child (omega arith) was given_cells)

  null_small : (x : ℕ) (wholes : List GraphChild) → Count ≤ 512 → AreNullChildren state x wholes → AllByRecursion IsSmallWhole wholes
  null_small x wholes few is = subst (AllByRecursion IsSmallWhole) (sym is.are) (
    with_cell x cells.Null (cells.Unk is.bound true is.shape) is.null few is.was is.null_is.cells,
    (
      with_cell x (cells.Unk is.bound false is.shape) (cells.Unk is.bound true is.shape) is.other few is.was is.other_is.cells,
      tt,
    ),
  )

  case_holds : (x : ℕ) (old : Cell) (shape : Shape) (case : Case) (child : AbstractState) → cell_at state x ≡ Some old
      → IsCase types state x shape case child → Holds (Count + new_ids types case) child
  case_holds x old shape (instance class) child was is =
      let new = zip is.ids (map (cell_of_slot types.erase shape) (types.fields class)) in
      let few = zip_few is.ids (map (cell_of_slot types.erase shape) (types.fields class)) in
      let many = is.count in
      split_holds (length (types.fields class)) x (cells.Obj class is.ids) old new child (omega (arith, few, many)) was is.is.cells
  case_holds x old shape (numbers kind) child was is =
      split_holds 1 x (cells.Nums kind is.len) old ((is.len, length_cell) ∷ []) child (omega arith) was is.is.cells
  case_holds x old shape (references element) child was is =
      split_holds 1 x (cells.Refs element is.len shape) old ((is.len, length_cell) ∷ []) child (omega arith) was is.is.cells

  cases_small : (x : ℕ) (old : Cell) (shape : Shape) (cases : List Case) (states : List AbstractState) → cell_at state x ≡ Some old
      → AllByRecursion (λ (n : ℕ). n ≤ 512) (map (λ (case : Case). Count + new_ids types case) cases)
      → AllZip (IsCase types state x shape) cases states
      → AllByRecursion IsSmallWhole (map (λ (s : AbstractState). record { state = s; link = plain_link false None }) states)
  cases_small x old shape [] [] was few is = tt
  cases_small x old shape [] (s ∷ states) was few is = absurd is
  cases_small x old shape (case ∷ cases) [] was few is = absurd is
  cases_small x old shape (case ∷ cases) (s ∷ states) was few is = (
    raised (Count + new_ids types case) 512 s few.0 (case_holds x old shape case s was is.0),
    cases_small x old shape cases states was few.1 is.1,
  )

  class_small : (x : ℕ) (wanted : Ty) (wholes : List GraphChild) → AreFew (class_counts types state wanted (cell_at state x))
      → AreClassChildren types state x wanted wholes → AllByRecursion IsSmallWhole wholes
  class_small x wanted wholes few is =
      let cases = cases_of types is.bound wanted in
      let own_few : AreFew (case_counts types state cases) = subst (λ (o : Option Cell). AreFew (class_counts types state wanted o)) is.was
      few in
      subst (AllByRecursion IsSmallWhole) (sym is.is)
      (cases_small x (cells.Unk is.bound false is.shape) is.shape cases is.states is.was
      (recursion_from_All (λ (n : ℕ). n ≤ 512) (case_counts types state cases) own_few) is.are)

  -- two ids that become one
  merged_holds : (stays goes : ℕ) (child : AbstractState) → Count ≤ 512 → IsMergedChild types.sub state stays goes child
      → Holds 512 child
  merged_holds stays goes child few is =
      let h = own state in
      let low = h.few in
      record {
        ids = h.ids;
        few = omega (arith, few, low);
        within = λ id cell e. by id cell (eqb id goes) (sym (is.is.cells id) ∙ e);
      }
    where
      merged : Cell
      merged = merged_cell types.sub is.left is.right

      there : (id : ℕ) (o : Option Cell) (cell : Cell) → cell_in ((stays, merged) ∷ state.cells) id ≡ o
          → option_map (cell_named (one_name goes stays)) o ≡ Some cell → has (own state).ids id ≡ true
      there id None cell f e = absurd (none-some cell e)
      there id (Some c) cell f e = elim (first_old stays merged is.left state state.cells is.left_is id c f) [
        | inl d ↦ (own state).within id d.0 d.1
        | inr d ↦ (own state).within id d.0 d.1
      ]

      by : (id : ℕ) (cell : Cell) (b : Bool)
          → cond b None (option_map (cell_named (one_name goes stays)) (cell_in ((stays, merged) ∷ state.cells) id)) ≡ Some cell
          → has (own state).ids id ≡ true
      by id cell true e = absurd (none-some cell e)
      by id cell false e = there id (cell_in ((stays, merged) ∷ state.cells) id) cell refl e

  apart_holds : (x y : ℕ) (child : AbstractState) → Count ≤ 512 → IsApartChild state x y child → Holds 512 child
  apart_holds x y child few is =
      let h = own state in
      let low = h.few in
      record { ids = h.ids; few = omega (arith, few, low); within = λ id cell e. h.within id cell (sym (is.cells id) ∙ e) }

  pairs_small : (x y : ℕ) (equal : Bool) (pairs : List (Option (ℕ × ℕ) × AbstractState)) → Count ≤ 512
      → IsEqualChild types.sub state x y equal pairs
      → AllByRecursion IsSmallWhole
      (map (λ (p : Option (ℕ × ℕ) × AbstractState). record { state = p.1; link = plain_link false p.0 }) pairs)
  pairs_small x y true _ few (both stays goes merged apart pair s m a) =
      (merged_holds stays goes merged few m, (apart_holds x y apart few a, tt))
  pairs_small x y false _ few (alone apart a) = (apart_holds x y apart few a, tt)

  equal_small : (x y : ℕ) (wholes : List GraphChild) → AreFew (equal_counts types state (cell_at state x) (cell_at state y))
      → AreEqualAnswers types.sub state x y wholes → AllByRecursion IsSmallWhole wholes
  equal_small x y wholes few is =
      let equal = are_compatible types.sub is.are.left is.are.right in
      let first = subst (λ (o : Option Cell). AreFew (equal_counts types state o (cell_at state y))) is.are.left_is few in
      let second : AreFew (cond equal ((Count - 1) ∷ Count ∷ []) (Count ∷ [])) = subst
      (λ (o : Option Cell). AreFew (equal_counts types state (Some is.are.left) o)) is.are.right_is first in
      subst (AllByRecursion IsSmallWhole) (sym is.is) (pairs_small x y equal is.pairs (count_few equal second) is.are.are)
    where
      count_few : (b : Bool) → AreFew (cond b ((Count - 1) ∷ Count ∷ []) (Count ∷ [])) → Count ≤ 512
      count_few true f = (recursion_from_All (λ (n : ℕ). n ≤ 512) ((Count - 1) ∷ Count ∷ []) f).1.0
      count_few false f = (recursion_from_All (λ (n : ℕ). n ≤ 512) (Count ∷ []) f).0

  -- ---- all plans

  wholes_of : (plan : Plan) (wholes : List GraphChild) → IsGoodPlan types state plan → AreFew (counts_of types state plan)
      → AreChildren types state plan wholes → AllByRecursion IsSmallWhole wholes
  wholes_of ends wholes good few is = absurd is
  wholes_of (steps turns) wholes good few is = turns_small turns wholes good
      (recursion_from_All (λ (n : ℕ). n ≤ 512) (counts_of types state (steps turns)) few) is
  wholes_of (by_null x) wholes good few is = null_small x wholes
      (recursion_from_All (λ (n : ℕ). n ≤ 512) (Count ∷ Count ∷ []) few).0 is
  wholes_of (by_class x wanted) wholes good few is = class_small x wanted wholes few is
  wholes_of (by_equal x y) wholes good few is = equal_small x y wholes few is

  pub children_small : (plan : Plan) (children : List GraphChild) → IsGoodPlan types state plan → AreExpanded types state plan children
      → AllByRecursion (λ (child : GraphChild). length child.state.cells ≤ 512) children
  children_small plan children good is = wholes_small is.wholes children (wholes_of plan is.wholes good is.few is.are) is.lean
