-- The laws of typed states.
use Rattle.std.proofs.Common.{◌≡◌, ℕ, zero, suc, List, [], ◌∷◌, Option, Some, None, refl, sym, ◌∙◌, subst}
use Rattle.std.specs.Prelude.{slice_get}
use Rattle.jvm_values.specs.declared.heap.Value.{Value}
use Rattle.jvm_values.specs.declared.heap.Heap.{Heap}
use Rattle.jvm_values.specs.declared.state.Mode.TheVariants.{Normal}
use Rattle.jvm_values.specs.States.{MachineState}
use Rattle.jvm_values.proofs.Options.{some_is}
use Rattle.class_program.specs.class_world.lemmas.WorldLaws.{world_laws}
use Rattle.class_program.proofs.class_world.BuiltInLaws.{built_ins_known}
use Rattle.class_program.specs.declared.program.Method.{Method}
use Rattle.class_program.specs.Programs.{Program, IsClosed}
use Rattle.class_program.specs.Widths.{HasWidths}
use Rattle.class_program.proofs.GoodPrograms.{good_program}
use Rattle.code_verify.specs.FrameTypesTables.{CodeTypes}
use Rattle.code_verify.specs.Typings.{IsTypingOf}
use Rattle.code_verify.specs.TypedStates.{IsTypedState}
use Rattle.jvm_step.specs.Running.{Step, new_frame, entered, step, step_on, run, start}
use Rattle.jvm_run.specs.Laws.{GoesTyped, StepsAreTyped, RunsAreTyped, RunsAreNeverStuck, StartsAreTyped}
use Rattle.jvm_run.proofs.Frames.{entered_running}
use Rattle.jvm_run.proofs.Stepping.{Known, step_typed}

-- what is known of a closed program with typings
pub known : (p : Program) (typing : ℕ → CodeTypes) → IsClosed p → HasWidths p → IsTypingOf p typing → Known p typing
known p typing closed widths t = record {
  linked = closed.known.linked;
  laws = world_laws p.world closed.known.linked;
  built_ins = built_ins_known p.world closed.known;
  good = good_program p closed;
  widths = widths;
  typings = λ number m e. (t.each number m e).is_typing;
}

pub steps_typed : StepsAreTyped
unfolding step
steps_typed p typing closed widths t state h = step_typed p typing (known p typing closed widths t) state.frames state.heap
    state.mode state.statics h

goes_on_typed : (p : Program) (typing : ℕ → CodeTypes)
    → ((state : MachineState) → IsTypedState p typing state → GoesTyped p typing (step p state)) → (s : Step) → GoesTyped p typing s
    → GoesTyped p typing (step_on p s)
unfolding step_on
goes_on_typed p typing f (Step.Going state) h = f state h
goes_on_typed p typing f (Step.Returned value) h = tt
goes_on_typed p typing f (Step.Threw r) h = tt
goes_on_typed p typing f Step.Stuck h = absurd h

pub runs_typed : RunsAreTyped
runs_typed p typing closed widths t state h zero = h
runs_typed p typing closed widths t state h (suc count) = goes_on_typed p typing (steps_typed p typing closed widths t)
    (run p count state) (runs_typed p typing closed widths t state h count)

pub never_stuck : RunsAreNeverStuck
never_stuck p typing closed widths t state h count e = subst (GoesTyped p typing) e (runs_typed p typing closed widths t state h count)

-- ---- starts

start_is : (p : Program) (arguments statics : List Value) (heap : Heap) (m : Method) → slice_get p.methods 0 ≡ Some m
    → start p arguments statics heap ≡ Some
    (record { frames = new_frame 0 m arguments ∷ []; heap = heap; mode = Normal; statics = statics })
unfolding start entered
start_is p arguments statics heap m e = rw e refl

pub starts_typed : StartsAreTyped
starts_typed p typing closed t arguments statics heap h state e =
    let laws = world_laws p.world closed.known.linked in
    let same : record { frames = new_frame 0 h.entry arguments ∷ []; heap = heap; mode = Normal; statics = statics } ≡ state =
    some_is (sym (start_is p arguments statics heap h.entry h.is_entry) ∙ e) in
    let running = entered_running p typing laws heap h.entry 0 arguments h.is_entry (t.each 0 h.entry h.is_entry).is_typing
    h.arguments_typed in
    subst (IsTypedState p typing) same (record { heap = h.heap_typed; statics = h.statics_typed; frames = (running, tt) })
