-- The steps of an abstract state, built from their parts: where it goes on, what it throws, and the cases of its ints.
use Rattle.std.specs.Prelude.{ℕ, ℤ, pos, ◌+ℤ◌, ◌*ℤ◌, ◌==◌, Bool, true, false, if◌then◌else◌, List, [], ◌∷◌, ◌++◌, map, Option, Some, None}
use Rattle.std.specs.List.{filter_map}
use Rattle.std.specs.Option.{option_map, option_and_then}
use Rattle.std.specs.Ordering.{int_eq}
use Rattle.abs_cells.specs.lin_core.Intervals.{Bounds}
use Rattle.jvm_values.specs.declared.types.Kind.{Kind}
use Rattle.jvm_values.specs.declared.ints.IntOp.{IntOp}
use Rattle.jvm_values.specs.declared.ints.IntOp.TheVariants.{Narrow}
use Rattle.jvm_values.specs.declared.ints.Cond.{Cond}
use Rattle.jvm_values.specs.declared.typing.PlaceType.{PlaceType}
use Rattle.abs_cells.specs.declared.cells.Cell.{Cell}
use Rattle.abs_cells.specs.declared.cells.Cell.TheVariants as cells
use Rattle.abs_cells.specs.AbstractStates.{AbstractFrame, AbstractState}
use Rattle.abs_cells.specs.Cells.{cell_at}
use Rattle.abs_ints.specs.IntIntervals.{all_ints, just, meet_of}
use Rattle.abs_ints.specs.Operating.{operated}
use Rattle.abs_ints.specs.Comparing.{compared}
use Rattle.abs_ints.specs.declared.cases.IntCase.{IntCase}
use Rattle.abs_ints.specs.declared.cases.ShortRow.{ShortRow}
use Rattle.abs_ints.specs.declared.cases.Way.{Way}
use Rattle.abs_ints.specs.declared.cases.Way.TheVariants as ways
use Rattle.jvm_step.specs.class_program.Programs.{Program}
use Rattle.jvm_step.specs.class_world.BuiltIns.{arithmetic_exception}
use Rattle.abs_heap.specs.term_graph.declared.links.Side.{Side}
use Rattle.abs_heap.specs.term_graph.declared.links.Side.TheVariants.{Before, After}
use Rattle.abs_heap.specs.term_graph.declared.links.LinkRow.{LinkRow}
use Rattle.abs_turns.specs.Plans.{Goal, Turn, nothing, makes, nowhere, on_stack, is_thrown, no_rows}

-- where an abstract state stands: the program, the state, its running frame and the frames below, the types that the typing gives the
-- frame's stack, the top first, and the place of the next instruction
pub record Here : Type 0 where
  pub program : Program
  pub state : AbstractState
  pub frame : AbstractFrame
  pub below : List AbstractFrame
  pub places : List PlaceType
  pub next : ℕ

-- ---- frames

-- the frames of a step within the running method: its frame stands at a place with these locals and this stack, and the frames below it
-- stay as they are
abbrev pub frames_at : Here → ℕ → List (Option ℕ) → List ℕ → List AbstractFrame
frames_at here place locals stack = record { method = here.frame.method; pc = place; locals = locals; stack = stack } ∷ here.below

-- the frames of a step that keeps all locals: the running frame goes on at a place with another stack
abbrev pub with_stack : Here → ℕ → List ℕ → List AbstractFrame
with_stack here place stack = frames_at here place here.frame.locals stack

-- the frames of a step that throws: the running frame's stack is emptied, and the frame stays at its instruction (JVM specification 2.10)
abbrev pub emptied : Here → List AbstractFrame
emptied here = with_stack here here.frame.pc []

-- ---- steps

-- a step that changes frames, and nothing else
abbrev pub moves : List AbstractFrame → Turn
moves frames = record { changed = []; frames = frames; throwing = None; act = nothing; goal = nowhere; rows = no_rows }

-- a step that leads the running frame to a place with another stack, and changes nothing else
abbrev pub goes_on : Here → ℕ → List ℕ → Turn
goes_on here place stack = moves (with_stack here place stack)

-- a step to the next instruction that puts a fresh id with a cell on top of a stack
abbrev pub pushes : Here → Cell → List ℕ → Turn
pushes here cell stack = record {
  changed = [];
  frames = with_stack here here.next stack;
  throwing = None;
  act = makes cell;
  goal =
      on_stack;
  rows = no_rows;
}

-- a step that throws a new object of a built-in class, which has no fields, while cells become others and the link has rows
abbrev pub throws_after : Here → List (ℕ × Cell) → (ℕ → List LinkRow) → ℕ → Turn
throws_after here narrowed rows class = record
    { changed = narrowed; frames = emptied here; throwing = None; act = makes (cells.Obj class []); goal = is_thrown; rows = rows }

-- a step that throws a new object of a built-in class, and changes no cell
abbrev pub throws : Here → ℕ → Turn
throws here class = throws_after here [] no_rows class

-- ---- ints

-- an operand of an int instruction: the id of an int of the state, or a number that the instruction itself gives
pub data Operand : Type 0 where
  known : ℤ → Operand
  id : ℕ → Operand

-- the interval of an int's cell; all ints where there is no cell, or where it is no int's
abbrev pub interval_in : Option Cell → Bounds
interval_in (Some (cells.Int interval)) = interval
interval_in _ = all_ints

-- the interval in which the int of an id lies
abbrev pub interval_of_id : AbstractState → ℕ → Bounds
interval_of_id state x = interval_in (cell_at state x)

-- the interval in which an operand lies: a number's own, or that of an id's int
abbrev pub interval_at : AbstractState → Operand → Bounds
interval_at state (known n) = just n
interval_at state (id x) = interval_of_id state x

-- two operands are the same id, and therefore the same int
abbrev pub are_one : Operand → Operand → Bool
are_one (id x) (id y) = x == y
are_one _ _ = false

-- the ids of two operands with the cells of their narrowed intervals; an id that is both operands gets the numbers that both intervals
-- have, and there are no narrowings where they have none in common
abbrev pub narrowings : Operand → Bounds → Operand → Bounds → Option (List (ℕ × Cell))
narrowings (known m) left (known n) right = Some []
narrowings (id x) left (known n) right = Some ((x, cells.Int left) ∷ [])
narrowings (known m) left (id y) right = Some ((y, cells.Int right) ∷ [])
narrowings (id x) left (id y) right = if x == y then option_map (λ both. (x, cells.Int both) ∷ []) (meet_of left right) else Some
    ((x, cells.Int left) ∷ (y, cells.Int right) ∷ [])

-- an id's term in a row of a link: a multiple of its int on one side of the step; there is no term where the multiple is 0
abbrev pub term_of : Side → ℕ → ℤ → List (Side × ℕ × ℤ)
term_of side x times = if int_eq times (pos 0) then [] else (side, x, times) ∷ []

-- the terms that an operand adds to a row: those of an id's int before the step, and none of a number
abbrev pub terms_of : Operand → ℤ → List (Side × ℕ × ℤ)
terms_of (known n) times = []
terms_of (id x) times = term_of Before x times

-- what an operand adds to the constant of a row: the multiple of a number, and nothing for an id
abbrev pub constant_of : Operand → ℤ → ℤ
constant_of (known n) times = times *ℤ n
constant_of (id x) times = pos 0

-- the row of a case as a row of the link: its operands stand for ints before the step or for numbers, and its result for an int after the
-- step
abbrev pub row_over : Operand → Operand → ℕ → ShortRow → LinkRow
row_over left right result row = record {
  kind = row.kind;
  terms = terms_of left row.left ++ (terms_of right row.right ++ term_of After result row.result);
  constant =
      row.constant +ℤ (constant_of left row.left +ℤ constant_of right row.right);
}

-- the rows of a case as rows of the link, by the id of the result
abbrev pub rows_over : Operand → Operand → List ShortRow → ℕ → List LinkRow
rows_over left right rows result = map (row_over left right result) rows

-- ---- operators

-- the step of one case of an operator: a fresh id with the result's interval goes to a goal; the case without a result is the division by
-- 0, which throws ArithmeticException (JVM specification 6.5.idiv, 6.5.irem)
abbrev pub turn_of_result : Here → List AbstractFrame → Goal → List (ℕ × Cell) → (ℕ → List LinkRow) → Option Bounds → Turn
turn_of_result here frames goal narrowed rows None = throws_after here narrowed rows arithmetic_exception
turn_of_result here frames goal narrowed rows (Some result) = record
    { changed = narrowed; frames = frames; throwing = None; act = makes (cells.Int result); goal = goal; rows = rows }

-- the step of one case of an operator, whose operands are narrowed to what the case says; there is none where one id is both operands and
-- no number fits both
abbrev pub turn_of_case : Here → Operand → Operand → List AbstractFrame → Goal → IntCase → Option Turn
turn_of_case here left right frames goal case = option_map
    (λ narrowed. turn_of_result here frames goal narrowed (rows_over left right case.rows) case.result)
    (narrowings left case.left right case.right)

-- the steps of an int operator (JVM specification 6.5.iadd and the like): one for each case of its operands' intervals, in their order,
-- without those that leave an operand no number
abbrev pub turns_of : Here → IntOp → Operand → Operand → List AbstractFrame → Goal → List Turn
turns_of here op left right frames goal = filter_map (turn_of_case here left right frames goal)
    (operated op (interval_at here.state left) (interval_at here.state right))

-- ---- narrowings to a kind

-- the step of one case of a narrowing to a kind: an int that is of the kind keeps its id, and `kept` is that step; else a fresh id, some
-- number of the kind, goes to the goal with the frames given
abbrev pub turn_narrowing : Turn → List AbstractFrame → Goal → Option Bounds → Turn
turn_narrowing kept frames goal None = kept
turn_narrowing kept frames goal (Some result) = record
    { changed = []; frames = frames; throwing = None; act = makes (cells.Int result); goal = goal; rows = no_rows }

-- the steps of a narrowing of an id's int to a kind (JVM specification 6.5.i2b, 6.5.i2c, 6.5.i2s, and stores into fields of small kinds):
-- one for each case of its interval
abbrev pub turns_narrowing : Here → Kind → ℕ → Turn → List AbstractFrame → Goal → List Turn
turns_narrowing here kind x kept frames goal = map (λ (case : IntCase). turn_narrowing kept frames goal case.result)
    (operated (Narrow kind) (interval_of_id here.state x) (interval_of_id here.state x))

-- ---- comparisons

-- a case of a comparison is that in which the condition holds, so that the jump is taken
abbrev pub is_taken : Way → Bool
is_taken ways.Taken = true
is_taken _ = false

-- rows where they are wanted, else none: a comparison with 0 gives the link no rows
abbrev pub rows_if : Bool → (ℕ → List LinkRow) → ℕ → List LinkRow
rows_if with_rows rows = if with_rows then rows else no_rows

-- a step that narrows cells and changes frames, and makes no id
abbrev pub narrows : List (ℕ × Cell) → List AbstractFrame → (ℕ → List LinkRow) → Turn
narrows narrowed frames rows = record { changed = narrowed; frames = frames; throwing = None; act = nothing; goal = nowhere; rows = rows }

-- where a case of a comparison goes on: at the jump's target where the condition holds, else at the next instruction
abbrev pub place_of_way : Here → ℕ → Way → ℕ
place_of_way here place way = if is_taken way then place else here.next

-- the step of one case of a comparison: both operands are narrowed to what the case says, and the frame goes on with a stack at the place
-- of the case's way; there is none where one id is both operands and no number fits both
abbrev pub branch_of_case : Here → Operand → Operand → ℕ → List ℕ → Bool → IntCase → Option Turn
branch_of_case here left right place stack with_rows case = option_map
    (λ narrowed. narrows narrowed (with_stack here (place_of_way here place case.way) stack)
    (rows_if with_rows (rows_over left right case.rows))) (narrowings left case.left right case.right)

-- the steps of a jump by a comparison of two ints (JVM specification 6.5.if_cond, 6.5.if_icmp_cond): one for each case that their
-- intervals leave possible
abbrev pub branches : Here → Cond → Operand → Operand → ℕ → List ℕ → Bool → List Turn
branches here cond left right place stack rows = filter_map (branch_of_case here left right place stack rows)
    (compared cond (are_one left right) (interval_at here.state left) (interval_at here.state right))

-- ---- switches

-- the step of one part of a switch, a key or a gap between keys: the operand is narrowed to the part's numbers, and the frame goes on at
-- the part's place; there is none where the operand has no such number
abbrev pub switch_turn : Here → ℕ → List ℕ → Option Bounds × ℕ → Option Turn
switch_turn here x stack part = option_map (λ both. narrows ((x, cells.Int both) ∷ []) (with_stack here part.1 stack) no_rows)
    (option_and_then (meet_of (interval_of_id here.state x)) part.0)
