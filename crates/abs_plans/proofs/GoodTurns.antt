-- Each step of a form names ids that are there, and what it makes names none.
use Rattle.std.proofs.Common.{◌≡◌, ◌==◌, ℕ, Bool, true, false, if◌then◌else◌, List, [], ◌∷◌, Option, Some, None, refl, subst}
use Rattle.std.specs.List.{AllByRecursion, filter_map}
use Rattle.std.specs.Option.{option_map, option_and_then}
use Rattle.std.proofs.lemmas.Option.{none-some}
use Rattle.list_views.proofs.Quantified.{all_filtered}
use Rattle.list_views.proofs.Options.{map_some}
use Rattle.abs_cells.specs.lin_core.Intervals.{Bounds}
use Rattle.jvm_values.specs.declared.ints.IntOp.{IntOp}
use Rattle.jvm_values.specs.declared.ints.IntOp.TheVariants.{Narrow as NarrowOp}
use Rattle.jvm_values.specs.declared.ints.Cond.{Cond}
use Rattle.jvm_values.specs.declared.types.Kind.{Kind}
use Rattle.jvm_values.proofs.Options.{some_is}
use Rattle.jvm_values.specs.TypedHeaps.{WorldTypes}
use Rattle.abs_cells.specs.declared.cells.Cell.{Cell}
use Rattle.abs_cells.specs.declared.cells.Cell.TheVariants as cells
use Rattle.abs_cells.specs.AbstractStates.{AbstractFrame}
use Rattle.abs_cells.specs.Sound.{given_ids}
use Rattle.abs_ints.specs.IntIntervals.{meet_of}
use Rattle.abs_ints.specs.Comparing.{compared}
use Rattle.abs_ints.specs.Operating.{operated}
use Rattle.abs_ints.specs.declared.cases.IntCase.{IntCase}
use Rattle.abs_turns.specs.term_graph.declared.links.LinkRow.{LinkRow}
use Rattle.abs_turns.specs.Plans.{Goal, Turn, makes, no_rows}
use Rattle.abs_turns.specs.Turns.{Here, Operand, known, id, frames_at, with_stack, moves, goes_on, pushes, throws_after}
use Rattle.abs_turns.specs.Turns.{interval_at, interval_of_id, are_one, narrowings, rows_over, turn_of_result, turn_of_case}
use Rattle.abs_turns.specs.Turns.{turns_of, turn_narrowing, turns_narrowing, narrows, rows_if, place_of_way, branch_of_case}
use Rattle.abs_turns.specs.Turns.{branches, switch_turn}
use Rattle.abs_turns.specs.GoodPlans.{IsThere, HoldsIds, IsChange, IsGoodAct, IsGoodTurn}
use Rattle.abs_turns.proofs.OptionLists.{each_any}

module _ (types : WorldTypes) (here : Here) (below_held : AllByRecursion (HoldsIds here.state) here.below)
    (held : HoldsIds here.state here.frame) where
  abbrev Holds : ℕ → Type 0
  Holds = IsThere here.state

  abbrev Good : Turn → Type 0
  Good = IsGoodTurn types here.state

  abbrev HoldsOperand : Operand → Type 0
  HoldsOperand (known n) = Unit {0}
  HoldsOperand (id x) = Holds x

  -- an int, made of what an id was
  pub narrow_one : (x : ℕ) (interval : Bounds) → Holds x → IsChange here.state (x, cells.Int interval)
  narrow_one x interval h = record { old = record { cell = h.cell; is = h.is; sort_is = refl }; names = tt }

  -- ---- frames

  pub frames_held : (place : ℕ) (locals : List (Option ℕ)) (stack : List ℕ) → AllByRecursion Holds (given_ids locals)
      → AllByRecursion Holds stack
      → AllByRecursion (HoldsIds here.state) (frames_at here place locals stack)
  frames_held place locals stack l s = (record { locals = l; stack = s }, below_held)

  pub stack_held : (place : ℕ) (stack : List ℕ) → AllByRecursion Holds stack
      → AllByRecursion (HoldsIds here.state) (with_stack here place stack)
  stack_held place stack s = frames_held place here.frame.locals stack held.locals s

  -- ---- steps

  pub moves_good : (frames : List AbstractFrame) → AllByRecursion (HoldsIds here.state) frames → Good (moves frames)
  moves_good frames h = record { changed = tt; frames = h; thrown = tt; act = tt }

  pub goes_good : (place : ℕ) (stack : List ℕ) → AllByRecursion Holds stack → Good (goes_on here place stack)
  goes_good place stack s = moves_good (with_stack here place stack) (stack_held place stack s)

  pub int_pushed : (interval : Bounds) (stack : List ℕ) → AllByRecursion Holds stack → Good (pushes here (cells.Int interval) stack)
  int_pushed interval stack s = record { changed = tt; frames = stack_held here.next stack s; thrown = tt; act = refl }

  pub null_pushed : (stack : List ℕ) → AllByRecursion Holds stack → Good (pushes here cells.Null stack)
  null_pushed stack s = record { changed = tt; frames = stack_held here.next stack s; thrown = tt; act = refl }

  pub throws_good : (narrowed : List (ℕ × Cell)) (rows : ℕ → List LinkRow) (class : ℕ)
      → AllByRecursion (IsChange here.state) narrowed → Good (throws_after here narrowed rows class)
  throws_good narrowed rows class n = record { changed = n; frames = stack_held here.frame.pc [] tt; thrown = tt; act = refl }

  narrows_good : (narrowed : List (ℕ × Cell)) (frames : List AbstractFrame) (rows : ℕ → List LinkRow)
      → AllByRecursion (IsChange here.state) narrowed
      → AllByRecursion (HoldsIds here.state) frames → Good (narrows narrowed frames rows)
  narrows_good narrowed frames rows n h = record { changed = n; frames = h; thrown = tt; act = tt }

  -- ---- the cases of ints

  result_good : (frames : List AbstractFrame) (goal : Goal) (narrowed : List (ℕ × Cell)) (rows : ℕ → List LinkRow) (result : Option Bounds)
      → AllByRecursion (HoldsIds here.state) frames
      → ((r : Bounds) (narrowed : List (ℕ × Cell)) → IsGoodAct types here.state narrowed (makes (cells.Int r)) goal)
      → AllByRecursion (IsChange here.state) narrowed → Good (turn_of_result here frames goal narrowed rows result)
  result_good frames goal narrowed rows None h g n = throws_good narrowed rows _ n
  result_good frames goal narrowed rows (Some r) h g n = record { changed = n; frames = h; thrown = tt; act = g r narrowed }

  both_narrowed : (x y : ℕ) → Holds x → Holds y → (same : Bool) (met : Option Bounds) (a b : Bounds) (list : List (ℕ × Cell))
      → (if same then option_map (λ both. (x, cells.Int both) ∷ []) met else Some ((x, cells.Int a) ∷ (y, cells.Int b) ∷ [])) ≡ Some list
      → AllByRecursion (IsChange here.state) list
  both_narrowed x y hx hy true None a b list e = absurd (none-some list e)
  both_narrowed x y hx hy true (Some both) a b list e = subst (AllByRecursion (IsChange here.state)) (some_is e) (narrow_one x both hx, tt)
  both_narrowed x y hx hy false met a b list e = subst (AllByRecursion (IsChange here.state)) (some_is e)
      (narrow_one x a hx, (narrow_one y b hy, tt))

  pub are_narrowed : (left right : Operand) → HoldsOperand left → HoldsOperand right → (a b : Bounds) (list : List (ℕ × Cell))
      → narrowings left a right b ≡ Some list
      → AllByRecursion (IsChange here.state) list
  are_narrowed (known m) (known n) hl hr a b list e = subst (AllByRecursion (IsChange here.state)) (some_is e) tt
  are_narrowed (id x) (known n) hl hr a b list e = subst (AllByRecursion (IsChange here.state)) (some_is e) (narrow_one x a hl, tt)
  are_narrowed (known m) (id y) hl hr a b list e = subst (AllByRecursion (IsChange here.state)) (some_is e) (narrow_one y b hr, tt)
  are_narrowed (id x) (id y) hl hr a b list e = both_narrowed x y hl hr (x == y) (meet_of a b) a b list e

  case_good : (left right : Operand) (frames : List AbstractFrame) (goal : Goal) → HoldsOperand left → HoldsOperand right
      → AllByRecursion (HoldsIds here.state) frames
      → ((r : Bounds) (narrowed : List (ℕ × Cell)) → IsGoodAct types here.state narrowed (makes (cells.Int r)) goal)
      → (case : IntCase) (turn : Turn)
      → turn_of_case here left right frames goal case ≡ Some turn → Good turn
  case_good left right frames goal hl hr h g case turn e =
      let m = map_some (λ (narrowed : List (ℕ × Cell)). turn_of_result here frames goal narrowed (rows_over left right case.rows)
      case.result)
      (narrowings left case.left right case.right) turn e in
      subst Good m.1.1 (result_good frames goal m.0 (rows_over left right case.rows) case.result h g
      (are_narrowed left right hl hr case.left case.right m.0 m.1.0))

  pub operator_good : (op : IntOp) (left right : Operand) (frames : List AbstractFrame) (goal : Goal) → HoldsOperand left
      → HoldsOperand right
      → AllByRecursion (HoldsIds here.state) frames
      → ((r : Bounds) (narrowed : List (ℕ × Cell)) → IsGoodAct types here.state narrowed (makes (cells.Int r)) goal)
      → AllByRecursion Good (turns_of here op left right frames goal)
  operator_good op left right frames goal hl hr h g =
      all_filtered Good (turn_of_case here left right frames goal)
      (operated op (interval_at here.state left) (interval_at here.state right))
      (case_good left right frames goal hl hr h g)

  branch_good : (left right : Operand) (place : ℕ) (stack : List ℕ) (with_rows : Bool) → HoldsOperand left → HoldsOperand right
      → AllByRecursion Holds stack
      → (case : IntCase) (turn : Turn) → branch_of_case here left right place stack with_rows case ≡ Some turn → Good turn
  branch_good left right place stack with_rows hl hr s case turn e =
      let frames = with_stack here (place_of_way here place case.way) stack in
      let rows = rows_if with_rows (rows_over left right case.rows) in
      let m = map_some (λ (narrowed : List (ℕ × Cell)). narrows narrowed frames rows) (narrowings left case.left right case.right)
      turn e in
      subst Good m.1.1 (narrows_good m.0 frames rows (are_narrowed left right hl hr case.left case.right m.0 m.1.0)
      (stack_held (place_of_way here place case.way) stack s))

  pub branches_good : (cond : Cond) (left right : Operand) (place : ℕ) (stack : List ℕ) (with_rows : Bool) → HoldsOperand left
      → HoldsOperand right
      → AllByRecursion Holds stack → AllByRecursion Good (branches here cond left right place stack with_rows)
  branches_good cond left right place stack with_rows hl hr s =
      all_filtered Good (branch_of_case here left right place stack with_rows)
      (compared cond (are_one left right) (interval_at here.state left) (interval_at here.state right))
      (branch_good left right place stack with_rows hl hr s)

  pub switch_good : (x : ℕ) (stack : List ℕ) (parts : List (Option Bounds × ℕ)) → Holds x → AllByRecursion Holds stack
      → AllByRecursion Good (filter_map (switch_turn here x stack) parts)
  switch_good x stack parts h s =
      all_filtered Good (switch_turn here x stack) parts (λ part turn e.
      let m = map_some (λ (both : Bounds). narrows ((x, cells.Int both) ∷ []) (with_stack here part.1 stack) no_rows)
      (option_and_then (meet_of (interval_of_id here.state x)) part.0) turn e in
      subst Good m.1.1 (narrows_good ((x, cells.Int m.0) ∷ []) (with_stack here part.1 stack) no_rows (narrow_one x m.0 h, tt)
      (stack_held part.1 stack s)))

  -- an int that stays, or a fresh one that goes to a goal
  kind_good : (kept : Turn) (frames : List AbstractFrame) (goal : Goal) → Good kept → AllByRecursion (HoldsIds here.state) frames
      → ((r : Bounds) (narrowed : List (ℕ × Cell)) → IsGoodAct types here.state narrowed (makes (cells.Int r)) goal)
      → (result : Option Bounds)
      → Good (turn_narrowing kept frames goal result)
  kind_good kept frames goal k h g None = k
  kind_good kept frames goal k h g (Some r) = record { changed = tt; frames = h; thrown = tt; act = g r [] }

  pub kinds_good : (kind : Kind) (x : ℕ) (kept : Turn) (frames : List AbstractFrame) (goal : Goal) → Good kept
      → AllByRecursion (HoldsIds here.state) frames
      → ((r : Bounds) (narrowed : List (ℕ × Cell)) → IsGoodAct types here.state narrowed (makes (cells.Int r)) goal)
      → AllByRecursion Good (turns_narrowing here kind x kept frames goal)
  kinds_good kind x kept frames goal k h g =
      each_any Good (λ (case : IntCase). turn_narrowing kept frames goal case.result)
      (operated (NarrowOp kind) (interval_of_id here.state x) (interval_of_id here.state x))
      (λ case. kind_good kept frames goal k h g case.result)
