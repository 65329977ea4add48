-- What comes in the place of a form's row, if anything does: a split, a throw, or no child. The code asks for it before it makes a row.
use Rattle.std.specs.Prelude.{ℕ, Bool, true, false, ◌&&◌, ◌||◌, if◌then◌else◌, List, [], ◌∷◌, filter, Option, Some, None}
use Rattle.std.specs.List.{find, list_any}
use Rattle.abs_cells.specs.lin_core.Intervals.{Bounds, interval_of}
use Rattle.jvm_values.specs.declared.types.Kind.{Kind}
use Rattle.jvm_values.specs.Kinds.{least_of, greatest_of}
use Rattle.jvm_values.specs.declared.typing.PlaceType.{PlaceType}
use Rattle.jvm_values.specs.TypedHeaps.{WorldTypes}
use Rattle.abs_cells.specs.AbstractStates.{AbstractState}
use Rattle.abs_cells.specs.Cells.{cell_at}
use Rattle.abs_cells.specs.PairLists.{has}
use Rattle.abs_ints.specs.Narrowings.{are_of_kind}
use Rattle.jvm_step.specs.class_world.BuiltIns.{null_pointer_exception}
use Rattle.jvm_step.specs.class_program.declared.op.Op.{Op}
use Rattle.jvm_step.specs.class_program.declared.op.Op.TheVariants as ops
use Rattle.jvm_step.specs.class_program.declared.op.Call.{Call}
use Rattle.jvm_step.specs.class_program.declared.program.CatchRange.{CatchRange}
use Rattle.abs_turns.specs.Plans.{Plan, steps, no_child, by_null, by_equal}
use Rattle.abs_turns.specs.Needs.{Passing, passes, fails, splits, passing_id, may_be_null, is_unknown, split_below}
use Rattle.abs_turns.specs.Turns.{Here, throws}
use Rattle.abs_turns.specs.Table.{place_under, is_null_here, jump_if}
use Rattle.abs_turns.specs.Throwing.{takes, may_take, before_taker}

-- a plan, unless another one comes in its place
abbrev pub unless : Option Plan → Plan → Plan
unless None plan = plan
unless (Some stop) plan = stop

-- what comes in the place of a plan: the first of two stops, if it is there, else the second
abbrev pub or_next : Option Plan → Option Plan → Option Plan
or_next None next = next
or_next (Some stop) next = Some stop

-- what an operand puts in the place of a form's plan: nothing where it passes its test, no child where it fails, and the split by null
abbrev pub stop_of : Passing → ℕ → Option Plan
stop_of passes id = None
stop_of fails id = Some no_child
stop_of splits id = Some (by_null id)

-- what the first operand that doesn't pass its test puts in the place of a form's plan, if there is such an operand
abbrev pub first_stop : WorldTypes → AbstractState → List (PlaceType × ℕ) → Option Plan
first_stop types state [] = None
first_stop types state (operand ∷ operands) = or_next (stop_of (passing_id types state operand.0 operand.1) operand.1)
    (first_stop types state operands)

-- what null puts in the place of a plan: it throws NullPointerException; other references put nothing there
abbrev pub null_stop : Here → ℕ → Option Plan
null_stop here x = if is_null_here here x then Some (steps (throws here null_pointer_exception ∷ [])) else None

-- what the receiver of a call without selection puts in the place of a plan: the split by null where it may be null, and the throw where
-- it is null
abbrev pub receiver_stop : Here → ℕ → Option Plan
receiver_stop here x = if may_be_null (cell_at here.state x) then Some (by_null x) else null_stop here x

-- what the receiver of an access, under so many entries of the stack, puts in the place of a plan: the split by null, then that by class
-- where its class isn't known, and the throw where it is null
abbrev pub access_stop : Here → ℕ → ℕ → Option Plan
access_stop here depth x = if may_be_null (cell_at here.state x) then Some (by_null x) else if is_unknown (cell_at here.state x)
    then Some (split_below here.state x (place_under here depth)) else null_stop here x

-- ---- parts of rows

-- a jump by whether two references are equal, of two different ids of which it is known whether they are null: two nulls are equal, null
-- and an object aren't, and two objects are split by whether they are one where they may be
abbrev pub objects_plan : Here → Bool → ℕ → ℕ → ℕ → List ℕ → Plan
objects_plan here wanted place a b stack =
    if is_null_here here a && is_null_here here b then jump_if here wanted true place stack
    else if is_null_here here a || is_null_here here b then jump_if here wanted false place stack
    else if has a b here.state.eq then by_equal a b
    else jump_if here wanted false place stack

-- what the interval of an int becomes in a narrowing to a kind: nothing new where all its ints are of the kind, else that of all numbers
-- of the kind
abbrev pub narrowed_to : Kind → Bounds → Option Bounds
narrowed_to kind a = if are_of_kind kind a then None else interval_of (least_of kind) (greatest_of kind)

-- the instruction of a call that selects its method by the receiver's class: invokeinterface or invokevirtual (JVM specification
-- 6.5.invokeinterface, 6.5.invokevirtual)
abbrev pub op_called : Bool → Call → Op
op_called true call = ops.Invokeinterface call
op_called false call = ops.Invokevirtual call

-- ---- ranges

-- the first entry of an exception table that covers the place and takes an object
abbrev pub taker_of : WorldTypes → AbstractState → ℕ → (CatchRange → Bool) → List CatchRange → Option CatchRange
taker_of types state x covered table = find (takes types state x) (filter covered table)

-- an entry of an exception table that covers the place may take an object, before the first that takes it for sure
abbrev pub may_of : WorldTypes → AbstractState → ℕ → (CatchRange → Bool) → List CatchRange → Bool
may_of types state x covered table = list_any (may_take types state x) (before_taker types state x (filter covered table))
