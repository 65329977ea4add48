-- The links of a state's children are such as rules take.
use Rattle.std.proofs.Common.{◌≡◌, ◌∙◌, ℕ, ℤ, Bool, true, false, not, if◌then◌else◌, ◌==◌, List, [], ◌∷◌, map, Option, Some, None}
use Rattle.std.proofs.Common.{inl, inr, refl, sym, ap, subst}
use Rattle.std.specs.Prelude.{All, zip}
use Rattle.std.specs.List.{AllByRecursion, AllZip}
use Rattle.std.specs.Option.{option_map}
use Rattle.std.proofs.lemmas.Bool.{false≢true, eqb-true}
use Rattle.std.proofs.lemmas.List.Elements.{All-from_recursion}
use Rattle.std.proofs.lemmas.Option.{none-some}
use Rattle.list_views.proofs.Options.{map_some}
use Rattle.jvm_values.specs.declared.shape.Shape.{Shape}
use Rattle.jvm_values.specs.declared.types.Ty.{Ty}
use Rattle.jvm_values.specs.TypedHeaps.{WorldTypes}
use Rattle.jvm_values.proofs.Options.{some_is}
use Rattle.abs_cells.specs.declared.cells.Cell.{Cell}
use Rattle.abs_cells.specs.declared.cells.Cell.TheVariants as cells
use Rattle.abs_cells.specs.AbstractStates.{AbstractState}
use Rattle.abs_cells.specs.Cells.{is_int, are_compatible, cell_in, cell_at, HasCell}
use Rattle.abs_expand.specs.AbsReachInstances.{is_no_int}
use Rattle.class_program.specs.class_world.WorldTypes.{types_of}
use Rattle.term_graph.specs.declared.links.Side.{Side}
use Rattle.term_graph.specs.declared.links.Side.TheVariants.{Before, After}
use Rattle.term_graph.specs.declared.links.Link.{Link}
use Rattle.term_graph.specs.declared.links.LinkRow.{LinkRow}
use Rattle.term_graph.specs.Graphs.{GraphChild}
use Rattle.abs_expand.specs.AbsHeapAnswers.{AreNullChildren, AreClassChildren, AreEqualAnswers}
use Rattle.abs_expand.specs.AbsHeapLaws.{plain_link}
use Rattle.abs_expand.specs.AbsHeapNames.{one_name, cell_named, IsPairOf}
use Rattle.abs_expand.specs.AbsHeapRefining.{Case, instance, numbers, references, IsCase, cases_of, cell_of_slot, length_cell, merged_cell}
use Rattle.abs_expand.specs.AbsHeapRefining.{IsMergedChild, IsEqualChild, both, alone}
use Rattle.path_rules.specs.Conditions.{IsTermBetween, IsRowBetween}
use Rattle.abs_expand.specs.Children.{IsTurnChild, IsLean}
use Rattle.abs_expand.specs.Expansions.{plan_of, AreChildren}
use Rattle.abs_expand.specs.Plans.{Turn, Plan, ends, steps, by_null, by_class, by_equal}
use Rattle.plan_links.specs.Laws.{FitsRules, LinksFit}
use Rattle.plan_links.proofs.Children.{kept_int}
use Rattle.plan_links.proofs.FitTurns.{old_sort, IsFit, AreFit}
use Rattle.plan_links.proofs.Plans.{plan_fit}
use Rattle.plan_links.proofs.Rows.{IsKept, IsTermOf, IsRowFor}
use Rattle.plan_links.proofs.Sorts.{SameSorts, given_stays, given_same, fresh_sorts, free_ids, acted_same, gone_back, dropped_back}
use Rattle.plan_links.proofs.Sorts.{named_sort, merged_sort, left_no_int, right_no_int}

-- ---- rows

term_between : (state child : AbstractState) (K : Type 0) (fresh : ℕ) (kept : K → HasCell is_int child fresh) (term : Side × ℕ × ℤ)
    → IsTermOf state K fresh term → IsTermBetween state child term
term_between state child K fresh kept (Before, x, n) h = h
term_between state child K fresh kept (After, x, n) h = (subst (HasCell is_int child) (sym h.0) (kept h.1.0), h.1.1)

terms_between : (state child : AbstractState) (K : Type 0) (fresh : ℕ) (kept : K → HasCell is_int child fresh)
    (terms : List (Side × ℕ × ℤ)) → AllByRecursion (IsTermOf state K fresh) terms → AllByRecursion (IsTermBetween state child) terms
terms_between state child K fresh kept [] h = tt
terms_between state child K fresh kept (term ∷ terms) h =
    (term_between state child K fresh kept term h.0, terms_between state child K fresh kept terms h.1)

rows_between : (state child : AbstractState) (K : Type 0) (fresh : ℕ) (kept : K → HasCell is_int child fresh) (rows : List LinkRow)
    → AllByRecursion (IsRowFor state K fresh) rows → AllByRecursion (IsRowBetween state child) rows
rows_between state child K fresh kept [] h = tt
rows_between state child K fresh kept (row ∷ rows) h = (
  record {
    short = h.0.short;
    terms = All-from_recursion (IsTermBetween state child) row.terms
        (terms_between state child K fresh kept row.terms h.0.terms);
    constant = h.0.constant;
  },
  rows_between state child K
      fresh kept rows h.1,
)

-- ---- sorts

pub no_and_int : (b : Bool) → b ≡ true → not b ≡ true → ⊥
no_and_int true e f = false≢true f
no_and_int false e f = false≢true e

ints_stay : (state child : AbstractState) → SameSorts state child → (id : ℕ) → HasCell is_int state id → HasCell is_no_int child id → ⊥
ints_stay state child same id has other = no_and_int (is_int other.cell) (sym (same id has.cell other.cell has.is other.is)
    ∙ has.sort_is) other.sort_is

references_stay : (state child : AbstractState) → SameSorts state child → (id : ℕ) → HasCell is_no_int state id
    → HasCell is_int child id → ⊥
references_stay state child same id has other = no_and_int (is_int has.cell) (same id has.cell other.cell has.is other.is
    ∙ other.sort_is) has.sort_is

-- ---- steps

step_same : (types : WorldTypes) (state : AbstractState) (turn : Turn) (whole child : GraphChild) → IsFit state turn
    → IsTurnChild types state turn whole → IsLean whole child → SameSorts state child.state
step_same types state turn whole child fit is lean id old new at e =
    let whole_is = subst (λ (s : AbstractState). cell_at s id ≡ Some new) is.is
    (dropped_back whole.state child.state lean.dropped id new e) in
    let acted = gone_back turn.goal is.id is.acted id new whole_is in
    let changed = given_stays state is.changed turn.changed is.is_changed.cells fit.sorts id old at in
    changed.sort ∙ acted_same types turn.act is.id is.changed is.acted is.is_changed.rising is.is_acted id changed.now acted.old
    changed.is acted.is ∙ acted.sort

step_fits : (types : WorldTypes) (state : AbstractState) (turn : Turn) (whole child : GraphChild) → IsFit state turn
    → IsTurnChild types state turn whole → IsLean whole child → FitsRules state child
step_fits types state turn whole child fit is lean =
    let link : child.link ≡ record { rows = turn.rows is.id; merged = None; step = true } = lean.link ∙ is.link in
    let rows = rows_between state child.state (IsKept turn) is.id (kept_int types state turn whole child is lean) (turn.rows is.id)
    (fit.rows is.id) in
    let same = step_same types state turn whole child fit is lean in
    record {
      ints = ints_stay state child.state same;
      references = references_stay state child.state same;
      merged = λ goes stays e has. none-some (goes, stays) (sym (ap (λ (l : Link). l.merged) link) ∙ e);
      rows = subst (λ (l : Link). All (IsRowBetween state child.state) l.rows) (sym link)
          (All-from_recursion (IsRowBetween state child.state) (turn.rows is.id) rows);
    }

all_fit : (types : WorldTypes) (state : AbstractState) (turns : List Turn) (wholes children : List GraphChild)
    → AllByRecursion (IsFit state) turns → AllZip (IsTurnChild types state) turns wholes → AllZip IsLean wholes children
    → AllByRecursion (FitsRules state) children
all_fit types state turns wholes [] fit are lean = tt
all_fit types state turns [] (child ∷ children) fit are lean = absurd lean
all_fit types state [] (whole ∷ wholes) (child ∷ children) fit are lean = absurd are
all_fit types state (turn ∷ turns) (whole ∷ wholes) (child ∷ children) fit are lean =
    (step_fits types state turn whole child fit.0 are.0 lean.0, all_fit types state turns wholes children fit.1 are.1 lean.1)

-- ---- splits

-- a child of a split, before ids are dropped
record IsSplit (state : AbstractState) (whole : GraphChild) : Type 0 where
  same : SameSorts state whole.state
  rows : whole.link.rows ≡ []
  merged : (goes stays : ℕ) → whole.link.merged ≡ Some (goes, stays) → HasCell is_int whole.state stays → ⊥

split_fits : (state : AbstractState) (whole child : GraphChild) → IsSplit state whole → IsLean whole child → FitsRules state child
split_fits state whole child split lean =
    let same : SameSorts state child.state = λ id old new at e. split.same id old new at
    (dropped_back whole.state child.state lean.dropped id new e) in
    record {
      ints = ints_stay state child.state same;
      references = references_stay state child.state same;
      merged = λ goes stays e has. split.merged goes stays (ap (λ (l : Link). l.merged) (sym lean.link) ∙ e)
          (record {
            cell = has.cell;
            is = dropped_back whole.state child.state lean.dropped stays has.cell has.is;
            sort_is =
                has.sort_is;
          });
      rows = subst (λ (rows : List LinkRow). All (IsRowBetween state child.state) rows)
          (sym (ap (λ (l : Link). l.rows) lean.link ∙ split.rows)) (All-from_recursion (IsRowBetween state child.state) [] tt);
    }

splits_fit : (state : AbstractState) (wholes children : List GraphChild) → AllByRecursion (IsSplit state) wholes
    → AllZip IsLean wholes children → AllByRecursion (FitsRules state) children
splits_fit state wholes [] split lean = tt
splits_fit state [] (child ∷ children) split lean = absurd lean
splits_fit state (whole ∷ wholes) (child ∷ children) split lean =
    (split_fits state whole child split.0 lean.0, splits_fit state wholes children split.1 lean.1)

plain_split : (state after : AbstractState) → SameSorts state after
    → IsSplit state (record { state = after; link = plain_link false None })
plain_split state after same = record { same = same; rows = refl; merged = λ goes stays e has. none-some (goes, stays) e }

null_splits : (state : AbstractState) (x : ℕ) (wholes : List GraphChild) → AreNullChildren state x wholes
    → AllByRecursion (IsSplit state) wholes
null_splits state x wholes h =
    subst (AllByRecursion (IsSplit state)) (sym h.are) (
      plain_split state h.null
          (given_same state h.null ((x, cells.Null) ∷ []) h.null_is.cells
          (old_sort state x (cells.Unk h.bound true h.shape) cells.Null h.was refl, tt)),
      (
        plain_split state h.other (given_same state h.other ((x, cells.Unk h.bound false h.shape) ∷ []) h.other_is.cells
            (old_sort state x (cells.Unk h.bound true h.shape) (cells.Unk h.bound false h.shape) h.was refl, tt)),
        tt,
      ),
    )

case_same : (types : WorldTypes) (state : AbstractState) (x : ℕ) (bound : Ty) (shape : Shape)
    → cell_at state x ≡ Some (cells.Unk bound false shape) → (case : Case) (child : AbstractState)
    → IsCase types state x shape case child → SameSorts state child
case_same types state x bound shape was (instance class) child is =
    given_same state child ((x, cells.Obj class is.ids) ∷ zip is.ids (map (cell_of_slot types.erase shape) (types.fields class)))
    is.is.cells (
      old_sort state x (cells.Unk bound false shape) (cells.Obj class is.ids) was refl,
      fresh_sorts state is.ids
          (map (cell_of_slot types.erase shape) (types.fields class)) (free_ids state is.ids is.fresh),
    )
case_same types state x bound shape was (numbers kind) child is =
    given_same state child ((x, cells.Nums kind is.len) ∷ (is.len, length_cell) ∷ []) is.is.cells (
      old_sort state x (cells.Unk bound false shape) (cells.Nums kind is.len) was refl,
      fresh_sorts state (is.len ∷ [])
          (length_cell ∷ []) (free_ids state (is.len ∷ []) is.fresh),
    )
case_same types state x bound shape was (references element) child is =
    given_same state child ((x, cells.Refs element is.len shape) ∷ (is.len, length_cell) ∷ []) is.is.cells (
      old_sort state x (cells.Unk bound false shape) (cells.Refs element is.len shape) was refl,
      fresh_sorts state (is.len ∷ [])
          (length_cell ∷ []) (free_ids state (is.len ∷ []) is.fresh),
    )

cases_split : (types : WorldTypes) (state : AbstractState) (x : ℕ) (bound : Ty) (shape : Shape)
    → cell_at state x ≡ Some (cells.Unk bound false shape) → (cases : List Case) (states : List AbstractState)
    → AllZip (IsCase types state x shape) cases states
    → AllByRecursion (IsSplit state) (map (λ (s : AbstractState). record { state = s; link = plain_link false None }) states)
cases_split types state x bound shape was cases [] are = tt
cases_split types state x bound shape was [] (s ∷ states) are = absurd are
cases_split types state x bound shape was (case ∷ cases) (s ∷ states) are = (
  plain_split state s (case_same types state x bound shape was case s are.0),
  cases_split types state x bound shape was cases
      states are.1,
)

class_splits : (types : WorldTypes) (state : AbstractState) (x : ℕ) (wanted : Ty) (wholes : List GraphChild)
    → AreClassChildren types state x wanted wholes → AllByRecursion (IsSplit state) wholes
class_splits types state x wanted wholes h = subst (AllByRecursion (IsSplit state)) (sym h.is)
    (cases_split types state x h.bound h.shape h.was (cases_of types h.bound wanted) h.states h.are)

-- ---- two ids that may be one

-- the cell of an id of the merged child
record Merged (sub : Ty → Ty → Bool) (state : AbstractState) (stays : ℕ) (left right : Cell) (id : ℕ) (new : Cell) : Type 0 where
  old : Cell
  old_is : cell_in ((stays, merged_cell sub left right) ∷ state.cells) id ≡ Some old
  sort : is_int old ≡ is_int new

merged_at : (sub : Ty → Ty → Bool) (state : AbstractState) (stays goes : ℕ) (child : AbstractState)
    (m : IsMergedChild sub state stays goes child) (id : ℕ) (new : Cell) → cell_at child id ≡ Some new
    → Merged sub state stays m.left m.right id new
merged_at sub state stays goes child m id new e = by (id == goes) (sym (m.is.cells id) ∙ e)
  where
    by : (b : Bool) → (if b then None else option_map (cell_named (one_name goes stays))
        (cell_in ((stays, merged_cell sub m.left m.right) ∷ state.cells) id)) ≡ Some new → Merged sub state stays m.left m.right id new
    by true f = absurd (none-some new f)
    by false f =
        let found = map_some (cell_named (one_name goes stays)) (cell_in ((stays, merged_cell sub m.left m.right) ∷ state.cells) id)
        new f in
        record { old = found.0; old_is = found.1.0; sort = sym (named_sort (one_name goes stays) found.0) ∙ ap is_int found.1.1 }

merged_same : (sub : Ty → Ty → Bool) (state : AbstractState) (stays goes : ℕ) (child : AbstractState)
    → IsMergedChild sub state stays goes child → SameSorts state child
merged_same sub state stays goes child m id old new at e =
    let f = merged_at sub state stays goes child m id new e in
    by f (stays == id) refl f.old_is
  where
    by : (f : Merged sub state stays m.left m.right id new) (b : Bool) → (stays == id) ≡ b
        → (if b then Some (merged_cell sub m.left m.right) else cell_in state.cells id) ≡ Some f.old → is_int old ≡ is_int new
    by f true same g = ap is_int (some_is (sym at ∙ ap (cell_at state) (sym (eqb-true stays id same)) ∙ m.left_is))
        ∙ sym (merged_sort sub m.left m.right) ∙ ap is_int (some_is g) ∙ f.sort
    by f false other g = ap is_int (some_is (sym at ∙ g)) ∙ f.sort

-- the id that stays is no int
stays_no_int : (sub : Ty → Ty → Bool) (state : AbstractState) (stays goes : ℕ) (child : AbstractState)
    (m : IsMergedChild sub state stays goes child) → is_int m.left ≡ false → HasCell is_int child stays → ⊥
stays_no_int sub state stays goes child m none has = false≢true
    (sym none ∙ merged_same sub state stays goes child m stays m.left has.cell m.left_is has.is ∙ has.sort_is)

-- of the pair of two cells that may be one object each is no int
pair_no_int : (sub : Ty → Ty → Bool) (state : AbstractState) (x y stays goes : ℕ) (left right other : Cell)
    → cell_at state x ≡ Some left → cell_at state y ≡ Some right → are_compatible sub left right ≡ true → IsPairOf x y stays goes
    → cell_at state stays ≡ Some other → is_int other ≡ false
pair_no_int sub state x y stays goes left right other lx ry compatible (inl p) at = ap is_int
    (some_is (sym at ∙ ap (cell_at state) p.0 ∙ lx)) ∙ left_no_int sub left right compatible
pair_no_int sub state x y stays goes left right other lx ry compatible (inr p) at = ap is_int
    (some_is (sym at ∙ ap (cell_at state) p.0 ∙ ry)) ∙ right_no_int sub left right compatible

apart_same : (state after : AbstractState) → ((id : ℕ) → cell_at after id ≡ cell_at state id) → SameSorts state after
apart_same state after are id old new at e = ap is_int (some_is (sym at ∙ sym (are id) ∙ e))

abbrev split_of : Option (ℕ × ℕ) × AbstractState → GraphChild
split_of p = record { state = p.1; link = plain_link false p.0 }

one_or_two : (sub : Ty → Ty → Bool) (state : AbstractState) (x y : ℕ) (left right : Cell) (b : Bool)
    (pairs : List (Option (ℕ × ℕ) × AbstractState)) → cell_at state x ≡ Some left → cell_at state y ≡ Some right
    → are_compatible sub left right ≡ b → IsEqualChild sub state x y b pairs
    → AllByRecursion (IsSplit state) (map split_of pairs)
one_or_two sub state x y left right true pairs lx ry compatible (both stays goes merged apart pair stay is other) = (
  record {
    same = merged_same sub state stays goes merged is;
    rows = refl;
    merged = λ gone stayed e has.
        stays_no_int sub state stays goes merged is
        (pair_no_int sub state x y stays goes left right is.left lx ry compatible pair is.left_is)
        (subst (HasCell is_int merged) (ap (λ (p : ℕ × ℕ). p.1) (sym (some_is e))) has);
  },
  (plain_split state apart (apart_same state apart other.cells), tt),
)
one_or_two sub state x y left right false pairs lx ry compatible (alone apart other) =
    (plain_split state apart (apart_same state apart other.cells), tt)

equal_splits : (sub : Ty → Ty → Bool) (state : AbstractState) (x y : ℕ) (wholes : List GraphChild)
    → AreEqualAnswers sub state x y wholes → AllByRecursion (IsSplit state) wholes
equal_splits sub state x y wholes h =
    subst (AllByRecursion (IsSplit state)) (sym h.is)
    (one_or_two sub state x y h.are.left h.are.right (are_compatible sub h.are.left h.are.right) h.pairs h.are.left_is
    h.are.right_is refl h.are.are)

-- ---- the law

planned_fit : (types : WorldTypes) (state : AbstractState) (plan : Plan) (wholes children : List GraphChild) → AreFit state plan
    → AreChildren types state plan wholes → AllZip IsLean wholes children → AllByRecursion (FitsRules state) children
planned_fit types state ends wholes children fit are lean = absurd are
planned_fit types state (steps turns) wholes children fit are lean = all_fit types state turns wholes children fit are lean
planned_fit types state (by_null x) wholes children fit are lean = splits_fit state wholes children (null_splits state x wholes are) lean
planned_fit types state (by_class x wanted) wholes children fit are lean = splits_fit state wholes children
    (class_splits types state x wanted wholes are) lean
planned_fit types state (by_equal x y) wholes children fit are lean = splits_fit state wholes children
    (equal_splits types.sub state x y wholes are) lean

pub links_fit : LinksFit
links_fit p typing state children widths typing_is good expanded =
    planned_fit (types_of p.world) state (plan_of p typing state) expanded.wholes children
    (plan_fit p typing state widths good typing_is) expanded.are expanded.lean
