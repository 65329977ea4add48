-- Frames that wait stand at calls.
use Rattle.std.proofs.Common.{◌≡◌, ◌∙◌, ℕ, List, [], ◌∷◌, Option, Some, None, refl, sym, ap}
use Rattle.std.specs.Prelude.{◌≢◌}
use Rattle.std.specs.List.{AllByRecursion}
use Rattle.std.specs.Option.{option_map_or}
use Rattle.std.proofs.lemmas.Bool.{false≢true}
use Rattle.std.proofs.lemmas.List.Elements.{All-from_recursion}
use Rattle.std.proofs.lemmas.Option.{none-some}
use Rattle.abs_cells.specs.AbstractStates.{AbstractFrame}
use Rattle.class_program.specs.declared.op.Op.{Op}
use Rattle.class_program.specs.declared.op.Op.TheVariants as ops
use Rattle.class_program.specs.Programs.{Program}
use Rattle.class_program.specs.Selected.{CanRun, can_receive}
use Rattle.code_verify.specs.TypedStates.{argument_count}
use Rattle.abs_expand.specs.BadStates.{call_takes, call_at, AreAtCalls}
use Rattle.place_sorts.specs.Growing.{IsWaiting, AreWaiting, WaitBelow}

-- a call takes its arguments
pub calls_take : (p : Program) (op : Op) (number : ℕ) → CanRun p op number → call_takes op ≡ Some (argument_count op)
unfolding can_receive
calls_take p (ops.Invokestatic call) number runs = refl
calls_take p (ops.Invokespecial call) number runs = refl
calls_take p (ops.Invokevirtual call) number runs = refl
calls_take p (ops.Invokeinterface call) number runs = refl
calls_take p (ops.Plain x) number runs = absurd (false≢true runs.1)
calls_take p (ops.Constant x) number runs = absurd (false≢true runs.1)
calls_take p (ops.Getstatic x) number runs = absurd (false≢true runs.1)
calls_take p (ops.Putstatic x) number runs = absurd (false≢true runs.1)
calls_take p (ops.Getfield x) number runs = absurd (false≢true runs.1)
calls_take p (ops.Putfield x) number runs = absurd (false≢true runs.1)
calls_take p (ops.New x) number runs = absurd (false≢true runs.1)
calls_take p (ops.Anewarray x) number runs = absurd (false≢true runs.1)
calls_take p (ops.Checkcast x) number runs = absurd (false≢true runs.1)
calls_take p (ops.Instanceof x) number runs = absurd (false≢true runs.1)

-- a frame that waits is at a call
pub waiting_call : (p : Program) (callee : ℕ) (frame : AbstractFrame) (w : IsWaiting p callee frame)
    → call_at p frame ≡ Some (argument_count w.op)
waiting_call p callee frame w = ap (λ (o : Option Op). option_map_or call_takes o None) w.stands ∙ calls_take p w.op callee w.runs

waiting_calls : (p : Program) (callee : ℕ) (frames : List AbstractFrame) → AreWaiting p callee frames
    → AllByRecursion (λ (frame : AbstractFrame). call_at p frame ≢ None) frames
waiting_calls p callee [] w = tt
waiting_calls p callee (frame ∷ below) w = (
  (λ e. none-some (argument_count w.0.op) (sym e ∙ waiting_call p callee frame w.0)),
  waiting_calls p frame.method below w.1,
)

pub at_calls : (p : Program) (frames : List AbstractFrame) → WaitBelow p frames → AreAtCalls p frames
at_calls p [] w = All-from_recursion (λ (frame : AbstractFrame). call_at p frame ≢ None) [] tt
at_calls p (frame ∷ below) w = All-from_recursion (λ (frame : AbstractFrame). call_at p frame ≢ None) below
    (waiting_calls p frame.method below w)
