-- What the calls that run the machine answer and leave, beside the written step.
use Rattle.std.specs.Prelude.{◌≡◌, ℕ, ◌≤◌, List, [], ◌∷◌, length, drop, slice_get, Option, Some, None, Result, Ok, Err}
use Rattle.std.specs.Prelude.{option_and_then, unwrap_or}
use Rattle.std.specs.Option.{option_map}
use Rattle.jvm_values.specs.declared.heap.Value.{Value}
use Rattle.jvm_values.specs.declared.heap.Value.TheVariants as values
use Rattle.jvm_values.specs.declared.heap.Object.{Object}
use Rattle.jvm_values.specs.declared.heap.Heap.{Heap}
use Rattle.jvm_values.specs.declared.state.Frame.{Frame}
use Rattle.jvm_values.specs.declared.state.Mode.TheVariants.{Normal, Throwing}
use Rattle.jvm_values.specs.States.{MachineFrame, MachineState, frame_of}
use Rattle.class_program.specs.declared.program.CatchRange.{CatchRange}
use Rattle.class_program.specs.declared.program.Method.{Method}
use Rattle.class_program.specs.Programs.{Program, insn_at, op_at}
use Rattle.op_forms.specs.declared.form.Form.{Form as FormSeen}
use Rattle.op_forms.specs.Forms.{Form, form_of, form_seen}
use Rattle.jvm_step.specs.declared.after.After.{After}
use Rattle.jvm_step.specs.declared.after.After.TheVariants as afters
use Rattle.jvm_step.specs.declared.outcome.Outcome.{Outcome}
use Rattle.jvm_step.specs.declared.outcome.Outcome.TheVariants as outcomes
use Rattle.jvm_step.specs.Effects.{Effect, effect_on}
use Rattle.jvm_step.specs.Table.{Work, effect_of}
use Rattle.std.specs.List.{find}
use Rattle.list_views.specs.Options.{◌>>=◌}
use Rattle.jvm_step.specs.Operands.{object_at}
use Rattle.jvm_step.specs.Running.{Step, work_of, applied, with_result, with_object, takes, handled}

-- ---- what a step answers

-- A call has done a step of the machine: where the run goes on, the state is the step's; where it ends, the call says how,
-- and the state is as it was. Of a state where the machine is stuck nothing is said.
abbrev pub Stepped : Step → Outcome → MachineState → MachineState → Type 0
Stepped (Step.Going state) outcomes.Going old new = new ≡ state
Stepped (Step.Returned value) (outcomes.Returned result) old new = (result ≡ value) × (new ≡ old)
Stepped (Step.Threw r) (outcomes.Threw thrown) old new = (thrown ≡ r) × (new ≡ old)
Stepped Step.Stuck outcome old new = Unit {0}
Stepped step outcome old new = ⊥

-- a call has done a step of the machine, or it wants memory and has changed nothing
abbrev pub Does : {E : Type 0} → Step → Result Outcome E → MachineState → MachineState → Type 0
Does step (Ok outcome) old new = Stepped step outcome old new
Does step (Err fault) old new = new ≡ old

-- a call has done a step of the machine, or it wants memory and has changed nothing; where the machine is stuck nothing is
-- said
abbrev pub Steps : {E : Type 0} → Step → Result Outcome E → MachineState → MachineState → Type 0
Steps Step.Stuck result old new = Unit {0}
Steps step result old new = Does step result old new

-- what is left to do after an instruction makes an object or a frame, or gives a value to a caller, and so may want memory
abbrev pub MayFail : After → Type 0
MayFail afters.Next = ⊥
MayFail (afters.Jump place) = ⊥
MayFail (afters.Raise class) = Unit {0}
MayFail (afters.Throw r) = ⊥
MayFail (afters.Invoke number count) = Unit {0}
MayFail (afters.Return value) = Unit {0}

-- ---- room

-- a frame's operand stack has room for as many values as its method says (JVM specification 2.6.2)
abbrev pub HasRoom : List Method → Frame → Type 0
HasRoom methods frame = (m : Method) → slice_get methods frame.method ≡ Some m → m.max_stack ≤ frame.stack.1

-- ---- parts of a step

-- what an instruction works on, as parts of the code: the frame that runs it, the static fields and the heap
abbrev pub work_seen : Frame → List Value → Heap → Work
work_seen frame statics heap = record { frame = frame_of frame; statics = statics; heap = heap }

-- the form of the instruction at a place of the method of a number
abbrev pub form_at : Program → ℕ → ℕ → Option Form
form_at p number pc = option_and_then form_of (op_at p.methods number pc)

-- what a call leaves to do, as an effect on what there is
abbrev pub left_to_do : {X : Type 0} → After → X → Effect X
left_to_do afters.Next x = Effect.Next x
left_to_do (afters.Jump place) x = Effect.Jump place x
left_to_do (afters.Raise class) x = Effect.Raise class
left_to_do (afters.Throw r) x = Effect.Throw r
left_to_do (afters.Invoke number count) x = Effect.Invoke number count
left_to_do (afters.Return value) x = Effect.Return value

-- the frames below the running one
abbrev pub below_of : List MachineFrame → List MachineFrame
below_of [] = []
below_of (frame ∷ below) = below

-- a state with another running frame, other static fields and another heap
abbrev pub with_work : MachineState → Work → MachineState
with_work state work = record { frames = work.frame ∷ below_of state.frames; heap = work.heap; mode = state.mode; statics = work.statics }

-- the effect of a form in a state; none where no frame runs
abbrev pub effect_in : Program → Method → Form → MachineState → List MachineFrame → Option (Effect MachineState)
effect_in p m form state [] = None
effect_in p m form state (frame ∷ below) = option_map (effect_on (with_work state)) (effect_of p m form (work_of state frame))

-- what a call leaves to do, done to a state whose next instruction is at a place, if there is one
abbrev pub applied_in : Program → Option ℕ → After → MachineState → List MachineFrame → Step
applied_in p next after state [] = Step.Stuck
applied_in p next after state (frame ∷ below) = unwrap_or
    (applied p below next (work_of state frame) (left_to_do after (work_of state frame))) Step.Stuck

-- ---- changes of frames

-- the frames of a state with the running one changed
abbrev pub frames_with : (MachineFrame → MachineFrame) → List MachineFrame → List MachineFrame
frames_with change [] = []
frames_with change (frame ∷ below) = change frame ∷ below

-- the frames of a state with the running one's caller changed
abbrev pub callers_with : (MachineFrame → MachineFrame) → List MachineFrame → List MachineFrame
callers_with change [] = []
callers_with change (frame ∷ below) = frame ∷ frames_with change below

-- a frame that goes on at a place
abbrev pub at_place : ℕ → MachineFrame → MachineFrame
at_place place frame = record frame { pc = place }

-- a frame with an empty operand stack
abbrev pub emptied : MachineFrame → MachineFrame
emptied frame = record frame { stack = [] }

-- a frame without so many values from the top of its operand stack
abbrev pub without_top : ℕ → MachineFrame → MachineFrame
without_top count frame = record frame { stack = drop count frame.stack }

-- a frame to which a call has returned: it goes on at a place with the result on its operand stack
abbrev pub given : ℕ → Option Value → MachineFrame → MachineFrame
given place value frame = record frame { pc = place; stack = with_result value frame.stack }

-- a frame in which a handler begins: at a place, with the thrown object alone on its operand stack
abbrev pub handling : ℕ → ℕ → MachineFrame → MachineFrame
handling place r frame = record frame { pc = place; stack = values.Ref r ∷ [] }

-- ---- changes of states

-- a state whose running frame goes on at a place, in normal mode
abbrev pub going_at : ℕ → MachineState → MachineState
going_at place state = record {
  frames = frames_with (at_place place) state.frames;
  heap = state.heap;
  mode = Normal;
  statics =
      state.statics;
}

-- a state in which an object is thrown: the running frame's operand stack is emptied, and the mode is throwing
abbrev pub thrown_in : ℕ → MachineState → MachineState
thrown_in r state = record { frames = frames_with emptied state.frames; heap = state.heap; mode = Throwing r; statics = state.statics }

-- a state in which a new object, put at the heap's end, is thrown
abbrev pub raised_in : Object → MachineState → MachineState
raised_in object state = record {
  frames = frames_with emptied state.frames;
  heap = with_object state.heap object;
  mode = Throwing
      (length state.heap.objects);
  statics = state.statics;
}

-- a state in which a new frame runs, whose arguments were so many values on its caller's operand stack
abbrev pub called_in : MachineFrame → ℕ → MachineState → MachineState
called_in frame count state = record {
  frames = frame ∷ frames_with (without_top count) state.frames;
  heap = state.heap;
  mode =
      Normal;
  statics = state.statics;
}

-- a state after the running frame has returned: it is gone, and its caller goes on at a place with the result
abbrev pub returned_in : ℕ → Option Value → MachineState → MachineState
returned_in place value state = record {
  frames = below_of (callers_with (given place value) state.frames);
  heap = state.heap;
  mode
      = Normal;
  statics = state.statics;
}

-- a state in which a handler of the running frame begins with the thrown object, in normal mode
abbrev pub handled_at : ℕ → ℕ → MachineState → MachineState
handled_at place r state = record {
  frames = frames_with (handling place r) state.frames;
  heap = state.heap;
  mode = Normal;
  statics
      = state.statics;
}

-- a state after nothing in the running frame took the thrown object: the frame is gone, and its caller's operand stack is
-- emptied
abbrev pub unwound_in : MachineState → MachineState
unwound_in state = record {
  frames = frames_with emptied (below_of state.frames);
  heap = state.heap;
  mode = state.mode;
  statics =
      state.statics;
}

-- what an entry of an exception table, found or not, makes of a state in which an object is thrown; stuck where no frame
-- runs
abbrev pub handled_in : MachineState → ℕ → Option CatchRange → List MachineFrame → Step
handled_in state r found [] = Step.Stuck
handled_in state r found (frame ∷ below) = handled state r frame below found

-- the entry of the running method's exception table that takes an object, if one does; none where method or object is not
-- there
unfoldable pub handler_in : Program → MachineState → ℕ → List MachineFrame → Option (Option CatchRange)
handler_in p state r [] = None
handler_in p state r (frame ∷ below) = do
  m ← slice_get p.methods frame.method
  object ← object_at state.heap r
  Some (find (takes p.world object frame.pc) m.table)

-- the form of the instruction at a frame's place, and the place of the next one
unfoldable pub form_here : Program → MachineFrame → Option (Form × Option ℕ)
form_here p frame = do
  here ← insn_at p.methods frame.method frame.pc
  form ← form_of here.0
  Some (form, here.1)

-- a form that the code borrows, with the place of the next instruction
abbrev pub here_seen : FormSeen × Option ℕ → Form × Option ℕ
here_seen x = (form_seen x.0, x.1)

-- the form of the running frame's instruction
abbrev pub form_in : Program → List MachineFrame → Option Form
form_in p [] = None
form_in p (frame ∷ below) = form_at p frame.method frame.pc

-- the running frame's instruction, in a method, has a form, and the next instruction is at a place, if there is one
abbrev pub IsRunning : Program → List MachineFrame → Method → Form → Option ℕ → Type 0
IsRunning p [] m form next = ⊥
IsRunning p (frame ∷ below) m form next = (slice_get p.methods frame.method ≡ Some m) × (form_here p frame ≡ Some (form, next))
