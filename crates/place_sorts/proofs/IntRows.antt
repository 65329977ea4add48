-- Steps of ints: operators, narrowings, branches and switches.
use Rattle.std.proofs.Common.{◌≡◌, ◌==◌, eqb, ℕ, ℤ, pos, ◌+ℤ◌, Bool, true, false, if◌then◌else◌, List, [], ◌∷◌, map}
use Rattle.std.proofs.Common.{Option, Some, None, refl, subst, arith}
use Rattle.std.specs.List.{AllByRecursion, filter_map, list_any}
use Rattle.std.specs.Option.{IfSome, option_map, option_and_then}
use Rattle.std.proofs.lemmas.Bool.{or_left, or_right}
use Rattle.std.proofs.lemmas.Option.{none-some}
use Rattle.std.proofs.Common.{eq-eqb}
use Rattle.list_views.proofs.Options.{map_some, then_some}
use Rattle.lin_core.specs.Intervals.{Bounds}
use Rattle.jvm_values.specs.declared.ints.IntOp.{IntOp}
use Rattle.jvm_values.specs.declared.ints.IntOp.TheVariants.{Narrow as NarrowOp}
use Rattle.jvm_values.specs.declared.ints.Cond.{Cond}
use Rattle.jvm_values.specs.declared.types.Kind.{Kind}
use Rattle.jvm_values.specs.declared.types.Kind.TheVariants as kinds
use Rattle.jvm_values.specs.declared.typing.PlaceType.{PlaceType}
use Rattle.jvm_values.specs.Kinds.{IsOfKind}
use Rattle.jvm_values.specs.TypedHeaps.{WorldTypes}
use Rattle.jvm_values.proofs.Options.{some_is}
use Rattle.abs_cells.specs.declared.cells.Cell.{Cell}
use Rattle.abs_cells.specs.declared.cells.Cell.TheVariants as cells
use Rattle.abs_cells.specs.AbstractStates.{AbstractFrame, AbstractState}
use Rattle.abs_cells.specs.Cells.{is_int, cell_at, HasCell}
use Rattle.abs_cells.specs.Sound.{IsSoundCell, IsSound}
use Rattle.abs_ints.specs.Comparing.{compared}
use Rattle.abs_ints.specs.IntIntervals.{meet_of}
use Rattle.abs_ints.specs.Operating.{operated}
use Rattle.abs_ints.specs.declared.cases.IntCase.{IntCase}
use Rattle.abs_ints.proofs.OperatorCases.{if_either}
use Rattle.code_forms.specs.declared.insn.Case.{Case}
use Rattle.class_world.specs.BuiltIns.{arithmetic_exception}
use Rattle.frame_types.specs.Tables.{CodeTypes}
use Rattle.term_graph.specs.declared.links.LinkRow.{LinkRow}
use Rattle.abs_turns.specs.Plans.{Goal, Turn, makes, no_rows}
use Rattle.abs_turns.specs.Switches.{table_keys, lookup_keys, parts_from}
use Rattle.abs_turns.specs.Table.{types_here}
use Rattle.abs_turns.specs.Turns.{Here, Operand, known, id, with_stack, interval_in, interval_of_id, interval_at}
use Rattle.abs_turns.specs.Turns.{are_one, narrowings, rows_over, turn_of_result, turn_of_case, turns_of, turn_narrowing}
use Rattle.abs_turns.specs.Turns.{turns_narrowing, is_taken, rows_if, narrows, place_of_way, branch_of_case, branches, switch_turn}
use Rattle.abs_turns.proofs.OptionLists.{filtered}
use Rattle.abs_turns.proofs.SoundCells.{cell_sound}
use Rattle.abs_expand.specs.BadStates.{HasStackOf, ArePlaced}
use Rattle.abs_expand.specs.inner.Making.{frames_to, thrown_to}
use Rattle.place_sorts.specs.Laws.{HasIntEnds, IsIntCase, ResultsStayInts, BranchesStayInts}
use Rattle.place_sorts.proofs.IntCases.{all_are, met_is}
use Rattle.place_sorts.specs.Growing.{WaitBelow}
use Rattle.place_sorts.proofs.Keeping.{KeepsSorts}
use Rattle.place_sorts.proofs.Turns.{AreSoundChanges, FitsGoal, int_change}
use Rattle.place_sorts.proofs.Spots.{Spot, Grows, Comes, narrowed_moves, throws_grows}

-- ---- lists

each_mapped : {X Y : Type 0} (Q : X → Type 0) (P : Y → Type 0) (f : X → Y) (xs : List X) → ((x : X) → Q x → P (f x))
    → AllByRecursion Q xs → AllByRecursion P (map f xs)
each_mapped Q P f [] h a = tt
each_mapped Q P f (x ∷ xs) h a = (h x a.0, each_mapped Q P f xs h a.1)

each_among_of : (P : ℕ → Type 0) (all xs : List ℕ) → ((x : ℕ) → list_any (eqb x) xs ≡ true → list_any (eqb x) all ≡ true)
    → ((x : ℕ) → list_any (eqb x) all ≡ true → P x) → AllByRecursion P xs
each_among_of P all [] i h = tt
each_among_of P all (x ∷ xs) i h = (
  h x (i x (or_left (eqb x x) (list_any (eqb x) xs) (eq-eqb x x refl))),
  each_among_of P all xs (λ y e. i y (or_right (eqb y x) (list_any (eqb y) xs) e)) h,
)

-- what holds of what is among some numbers holds of each
pub each_among : (P : ℕ → Type 0) (xs : List ℕ) → ((x : ℕ) → list_any (eqb x) xs ≡ true → P x) → AllByRecursion P xs
each_among P xs h = each_among_of P xs xs (λ x e. e) h

-- ---- intervals of ids

bounds_in : (types : WorldTypes) (state : AbstractState) (found : Option Cell)
    → ((cell : Cell) → found ≡ Some cell → IsSoundCell types state cell) → HasIntEnds (interval_in found)
bounds_in types state None h = all_are
bounds_in types state (Some (cells.Int interval)) h = h (cells.Int interval) refl
bounds_in types state (Some cells.Null) h = all_are
bounds_in types state (Some (cells.Obj class ids)) h = all_are
bounds_in types state (Some (cells.Nums kind len)) h = all_are
bounds_in types state (Some (cells.Refs element len shape)) h = all_are
bounds_in types state (Some (cells.Unk bound nullable shape)) h = all_are

pub id_bounds : (types : WorldTypes) (state : AbstractState) → IsSound types state → (x : ℕ) → HasIntEnds (interval_of_id state x)
id_bounds types state sound x = bounds_in types state (cell_at state x) (λ cell e. cell_sound types state sound x cell e)

-- an operand is an int
abbrev pub IsIntOperand : AbstractState → Operand → Type 0
IsIntOperand state (known n) = IsOfKind kinds.Int n
IsIntOperand state (id x) = HasCell is_int state x

module _ (typing : ℕ → CodeTypes) (here : Here) (spot : Spot typing here) where
  abbrev Types : WorldTypes
  Types = types_here here

  abbrev Changes : List (ℕ × Cell) → Type 0
  Changes = AreSoundChanges Types here.state

  abbrev Turns : List Turn → Type 0
  Turns = AllByRecursion (Grows typing here spot)

  operand_bounds : (operand : Operand) → IsIntOperand here.state operand → HasIntEnds (interval_at here.state operand)
  operand_bounds (known n) h = (h, h)
  operand_bounds (id x) h = id_bounds Types here.state spot.sound x

  -- ---- narrowed operands

  both_narrowed : (x y : ℕ) (a b : Bounds) → HasCell is_int here.state x → HasCell is_int here.state y → HasIntEnds a → HasIntEnds b
      → (same : Bool) (met : Option Bounds) (list : List (ℕ × Cell))
      → ((both : Bounds) → met ≡ Some both → HasIntEnds both)
      → (if same then option_map (λ both. (x, cells.Int both) ∷ []) met else Some ((x, cells.Int a) ∷ (y, cells.Int b) ∷ [])) ≡ Some
      list → Changes list
  both_narrowed x y a b hx hy ha hb true None list m e = absurd (none-some list e)
  both_narrowed x y a b hx hy ha hb true (Some both) list m e = subst Changes (some_is e)
      (int_change Types here.state x both hx (m both refl), tt)
  both_narrowed x y a b hx hy ha hb false met list m e = subst Changes (some_is e)
      (int_change Types here.state x a hx ha, (int_change Types here.state y b hy hb, tt))

  pub are_narrowed : (left right : Operand) (a b : Bounds) (list : List (ℕ × Cell)) → IsIntOperand here.state left
      → IsIntOperand here.state right → HasIntEnds a → HasIntEnds b
      → narrowings left a right b ≡ Some list → Changes list
  are_narrowed (known m) (known n) a b list hl hr ha hb e = subst Changes (some_is e) tt
  are_narrowed (id x) (known n) a b list hl hr ha hb e = subst Changes (some_is e) (int_change Types here.state x a hl ha, tt)
  are_narrowed (known m) (id y) a b list hl hr ha hb e = subst Changes (some_is e) (int_change Types here.state y b hr hb, tt)
  are_narrowed (id x) (id y) a b list hl hr ha hb e = both_narrowed x y a b hl hr ha hb (x == y) (meet_of a b) list
      (λ both f. met_is a b both ha f) e

  -- ---- operators

  -- a fresh int goes to a goal of frames
  pub record PlacesInt (frames : List AbstractFrame) (goal : Goal) : Type 0 where
    pub placed : (after : AbstractState) (id : ℕ) → KeepsSorts here.state after → HasCell is_int after id
        → after.throwing ≡ thrown_to goal id None → ArePlaced here.program typing after (frames_to goal id frames)
    pub waiting : WaitBelow here.program frames
    pub framed : frames ≡ [] → ⊥

  made_int : (changed : List (ℕ × Cell)) (rows : ℕ → List LinkRow) (frames : List AbstractFrame) (goal : Goal) (r : Bounds)
      → Changes changed → PlacesInt frames goal → HasIntEnds r → FitsGoal Types here.state changed (cells.Int r) goal
      → Grows typing here spot
      (record { changed = changed; frames = frames; throwing = None; act = makes (cells.Int r); goal = goal; rows = rows })
  made_int changed rows frames goal r n places h fits = record {
    changed = n;
    act = (λ after keeps. h, fits);
    placed = places.placed;
    waiting = places.waiting;
    framed = places.framed;
    thrown = λ x e. absurd (none-some x e);
  }

  result_grows : (frames : List AbstractFrame) (goal : Goal) (changed : List (ℕ × Cell)) (rows : ℕ → List LinkRow)
      (result : Option Bounds) → Changes changed → PlacesInt frames goal → IfSome result HasIntEnds
      → ((r : Bounds) → FitsGoal Types here.state changed (cells.Int r) goal)
      → Grows typing here spot (turn_of_result here frames goal changed rows result)
  result_grows frames goal changed rows None n places h fits = throws_grows typing here spot changed rows arithmetic_exception
      (omega arith) n
  result_grows frames goal changed rows (Some r) n places h fits = made_int changed rows frames goal r n places h (fits r)

  pub operator_grows : ResultsStayInts → (op : IntOp) (left right : Operand) (frames : List AbstractFrame) (goal : Goal)
      → IsIntOperand here.state left → IsIntOperand here.state right → PlacesInt frames goal
      → ((changed : List (ℕ × Cell)) (r : Bounds) → FitsGoal Types here.state changed (cells.Int r) goal)
      → Turns (turns_of here op left right frames goal)
  operator_grows stay op left right frames goal hl hr places fits =
      filtered IsIntCase (Grows typing here spot) (turn_of_case here left right frames goal)
      (operated op (interval_at here.state left) (interval_at here.state right)) (λ case ends turn e.
      let m = map_some (λ (narrowed : List (ℕ × Cell)). turn_of_result here frames goal narrowed (rows_over left right case.rows)
      case.result) (narrowings left case.left right case.right) turn e in
      subst (Grows typing here spot) m.1.1 (result_grows frames goal m.0 (rows_over left right case.rows) case.result
      (are_narrowed left right case.left case.right m.0 hl hr ends.left ends.right m.1.0) places ends.result (fits m.0)))
      (stay op (interval_at here.state left) (interval_at here.state right) (operand_bounds left hl) (operand_bounds right hr))

  -- ---- narrowings to a kind

  kind_grows : (kept : Turn) (frames : List AbstractFrame) (goal : Goal) (result : Option Bounds) → Grows typing here spot kept
      → PlacesInt frames goal → IfSome result HasIntEnds
      → ((r : Bounds) → FitsGoal Types here.state [] (cells.Int r) goal) → Grows typing here spot (turn_narrowing kept frames goal result)
  kind_grows kept frames goal None k places h fits = k
  kind_grows kept frames goal (Some r) k places h fits = made_int [] no_rows frames goal r tt places h (fits r)

  pub kinds_grow : ResultsStayInts → (kind : Kind) (x : ℕ) (kept : Turn) (frames : List AbstractFrame) (goal : Goal)
      → Grows typing here spot kept → PlacesInt frames goal
      → ((r : Bounds) → FitsGoal Types here.state [] (cells.Int r) goal) → Turns (turns_narrowing here kind x kept frames goal)
  kinds_grow stay kind x kept frames goal k places fits =
      let own = id_bounds Types here.state spot.sound x in
      each_mapped IsIntCase (Grows typing here spot) (λ (case : IntCase). turn_narrowing kept frames goal case.result)
      (operated (NarrowOp kind) (interval_of_id here.state x) (interval_of_id here.state x))
      (λ case ends. kind_grows kept frames goal case.result k places ends.result fits)
      (stay (NarrowOp kind) (interval_of_id here.state x) (interval_of_id here.state x) own own)

  -- ---- branches

  pub branches_grow : BranchesStayInts → (cond : Cond) (left right : Operand) (place : ℕ) (below : List PlaceType) (stack : List ℕ)
      (with_rows : Bool) → IsIntOperand here.state left → IsIntOperand here.state right
      → Comes typing here spot here.next spot.there.locals below → Comes typing here spot place spot.there.locals below
      → HasStackOf here.state below stack
      → Turns (branches here cond left right place stack with_rows)
  branches_grow stay cond left right place below stack with_rows hl hr next jump has =
      filtered IsIntCase (Grows typing here spot) (branch_of_case here left right place stack with_rows)
      (compared cond (are_one left right) (interval_at here.state left) (interval_at here.state right)) (λ case ends turn e.
      let to = place_of_way here place case.way in
      let rows = rows_if with_rows (rows_over left right case.rows) in
      let m = map_some (λ (narrowed : List (ℕ × Cell)). narrows narrowed (with_stack here to stack) rows)
      (narrowings left case.left right case.right) turn e in
      subst (Grows typing here spot) m.1.1
      (narrowed_moves typing here spot m.0 rows to below stack
      (are_narrowed left right case.left case.right m.0 hl hr ends.left ends.right m.1.0)
      (if_either (λ (n : ℕ). Comes typing here spot n spot.there.locals below) (is_taken case.way) place here.next (λ _. jump)
      (λ _. next)) has))
      ((stay (interval_at here.state left) (interval_at here.state right) (operand_bounds left hl)
      (operand_bounds right hr)).compared cond (are_one left right))

  -- ---- switches

  pub switch_grows : (x : ℕ) (below : List PlaceType) (stack : List ℕ) (parts : List (Option Bounds × ℕ))
      → HasCell is_int here.state x → HasStackOf here.state below stack
      → AllByRecursion (λ (part : Option Bounds × ℕ). Comes typing here spot part.1 spot.there.locals below) parts
      → Turns (filter_map (switch_turn here x stack) parts)
  switch_grows x below stack parts hx has comes =
      filtered (λ (part : Option Bounds × ℕ). Comes typing here spot part.1 spot.there.locals below) (Grows typing here spot)
      (switch_turn here x stack) parts (λ part to turn e.
      let m = map_some (λ (both : Bounds). narrows ((x, cells.Int both) ∷ []) (with_stack here part.1 stack) no_rows)
      (option_and_then (meet_of (interval_of_id here.state x)) part.0) turn e in
      let met = then_some (meet_of (interval_of_id here.state x)) part.0 m.0 m.1.0 in
      let ends = met_is (interval_of_id here.state x) met.0 m.0 (id_bounds Types here.state spot.sound x) met.1.1 in
      subst (Grows typing here spot) m.1.1 (narrowed_moves typing here spot ((x, cells.Int m.0) ∷ []) no_rows part.1 below stack
      (int_change Types here.state x m.0 hx ends, tt) to has))
      comes

-- ---- where switches lead

pub parts_lead : (P : ℕ → Type 0) (default : ℕ) → P default → (keys : List (ℤ × ℕ)) (low : ℤ)
    → AllByRecursion (λ (key : ℤ × ℕ). P key.1) keys
    → AllByRecursion (λ (part : Option Bounds × ℕ). P part.1) (parts_from low default keys)
parts_lead P default d [] low a = (d, tt)
parts_lead P default d (key ∷ keys) low a = (d, (a.0, parts_lead P default d keys (key.0 +ℤ pos 1) a.1))

pub table_lead : (P : ℕ → Type 0) (targets : List ℕ) (low : ℤ) → AllByRecursion P targets
    → AllByRecursion (λ (key : ℤ × ℕ). P key.1) (table_keys low targets)
table_lead P [] low a = tt
table_lead P (target ∷ targets) low a = (a.0, table_lead P targets (low +ℤ pos 1) a.1)

pub lookup_lead : (P : ℕ → Type 0) (cases : List Case) → AllByRecursion P (map (λ (c : Case). c.target) cases)
    → AllByRecursion (λ (key : ℤ × ℕ). P key.1) (lookup_keys cases)
lookup_lead P [] a = tt
lookup_lead P (case ∷ cases) a = (a.0, lookup_lead P cases a.1)
