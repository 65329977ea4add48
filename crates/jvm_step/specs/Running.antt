-- One step of the machine, and the run of many (JVM specification, sections 2.6, 2.10 and 2.11).
use Rattle.std.specs.Prelude.{◌≡◌, ℕ, zero, suc, ◌&&◌, nat_le, nat_lt, Bool, true, List, [], ◌∷◌, ◌++◌, length, reverse, take, drop}
use Rattle.std.specs.Prelude.{slice_get, Option, Some, None, unwrap_or}
use Rattle.std.specs.List.{find}
use Rattle.std.specs.Option.{option_map, option_map_or}
use Rattle.list_views.specs.Options.{◌>>=◌}
use Rattle.jvm_values.specs.declared.heap.Value.{Value}
use Rattle.jvm_values.specs.declared.heap.Value.TheVariants as values
use Rattle.jvm_values.specs.declared.heap.Object.{Object}
use Rattle.jvm_values.specs.declared.heap.Heap.{Heap}
use Rattle.jvm_values.specs.declared.state.Mode.{Mode}
use Rattle.jvm_values.specs.declared.state.Mode.TheVariants.{Normal, Throwing}
use Rattle.jvm_values.specs.States.{MachineFrame, MachineState, locals_from}
use Rattle.jvm_values.specs.Subtyping.{class_type}
use Rattle.jvm_values.specs.TypedHeaps.{type_of}
use Rattle.class_program.specs.class_world.World.{World}
use Rattle.class_program.specs.class_world.Types.{is_sub}
use Rattle.class_program.specs.declared.program.CatchRange.{CatchRange}
use Rattle.class_program.specs.declared.program.Method.{Method}
use Rattle.op_forms.specs.Forms.{form_of}
use Rattle.class_program.specs.Programs.{Program, insn_at}
use Rattle.jvm_step.specs.Operands.{object_at}
use Rattle.jvm_step.specs.Effects.{Effect, types_of, new_instance}
use Rattle.jvm_step.specs.Table.{Work, effect_of}

-- What one step of the machine gives: a state to go on from, the end of the run by a return or by a throw that nothing
-- catches, or nothing that the rules name.
pub data Step : Type 0 where
  Going : MachineState → Step
  Returned : Option Value → Step
  Threw : ℕ → Step
  Stuck : Step

-- ---- what effects do to a state

-- the state after an instruction has changed the running frame, the static fields and the heap, where the frame goes on at
-- a place; `below` are the frames of its callers
abbrev pub goes_on : List MachineFrame → ℕ → Work → Step
goes_on below place work = Going
    (record { frames = record work.frame { pc = place } ∷ below; heap = work.heap; mode = Normal; statics = work.statics })

-- an object is thrown: the frame's operand stack is emptied, and the next step looks for a handler (JVM specification 2.10)
abbrev pub throws : List MachineFrame → ℕ → Work → Step
throws below r work = Going
    (record { frames = record work.frame { stack = [] } ∷ below; heap = work.heap; mode = Throwing r; statics = work.statics })

-- a heap with an object at its end
abbrev pub with_object : Heap → Object → Heap
with_object heap object = record { objects = heap.objects ++ object ∷ [] }

-- the frame of a method that begins: the arguments are in the first locals, and the others are unset (JVM specification
-- 2.6.1)
abbrev pub new_frame : ℕ → Method → List Value → MachineFrame
new_frame number m arguments = record {
  method = number;
  pc = 0;
  locals = locals_from Some None m.max_locals arguments;
  stack = [];
}

-- the frame that the method of a number begins with; none where there is no such method
unfoldable pub entered : Program → ℕ → List Value → Option MachineFrame
entered p number arguments = do
  m ← slice_get p.methods number
  Some (new_frame number m arguments)

-- The method of a number is called: its arguments leave the caller's operand stack, and the caller's place stays at the
-- call (JVM specification 2.6).
unfoldable pub invokes : Program → List MachineFrame → ℕ → ℕ → Work → Option Step
invokes p below number count work = do
  frame ← entered p number (reverse (take count work.frame.stack))
  Some (Going (record {
    frames = frame ∷ record work.frame { stack = drop count work.frame.stack } ∷ below;
    heap = work.heap;
    mode = Normal;
    statics = work.statics;
  }))

-- what a caller's operand stack is after a call that returns
abbrev pub with_result : Option Value → List Value → List Value
with_result None stack = stack
with_result (Some value) stack = value ∷ stack

-- A call returns: its caller goes on after its call, with the result on its operand stack. Without a caller the run has
-- returned (JVM specification 2.6.4).
unfoldable pub returns : Program → List MachineFrame → Option Value → Work → Option Step
returns p [] value work = Some (Returned value)
returns p (caller ∷ below) value work = do
  here ← insn_at p.methods caller.method caller.pc
  place ← here.1
  Some (goes_on below place (record work { frame = record caller { stack = with_result value caller.stack } }))

-- What an effect makes of the state whose running frame, static fields and heap are `work`. `next` is the place of the next
-- instruction, if there is one.
abbrev pub applied : Program → List MachineFrame → Option ℕ → Work → Effect Work → Option Step
applied p below next work (Effect.Next after) = option_map (λ place. goes_on below place after) next
applied p below next work (Effect.Jump place after) = Some (goes_on below place after)
applied p below next work (Effect.Raise class) = Some
    (throws below (length work.heap.objects) (record work { heap = with_object work.heap (new_instance (types_of p.world) class) }))
applied p below next work (Effect.Throw r) = Some (throws below r work)
applied p below next work (Effect.Invoke number count) = invokes p below number count work
applied p below next work (Effect.Return value) = returns p below value work

-- ---- normal mode

-- what an instruction works on in a state: the frame that runs it, the static fields and the heap
abbrev pub work_of : MachineState → MachineFrame → Work
work_of state frame = record { frame = frame; statics = state.statics; heap = state.heap }

-- a step in normal mode: the effect of the instruction at the running frame's place, applied
unfoldable pub normal_step : Program → MachineState → List MachineFrame → Option Step
normal_step p state [] = None
normal_step p state (frame ∷ below) = do
  m ← slice_get p.methods frame.method
  here ← insn_at p.methods frame.method frame.pc
  form ← form_of here.0
  effect ← effect_of p m form (work_of state frame)
  applied p below here.1 (work_of state frame) effect

-- ---- throwing mode

-- an entry of an exception table takes an object that is thrown at a place: the place lies in its range, whose end does not
-- belong to it, and the object is of the caught class or of one below; without a class it takes each (JVM specification
-- 4.7.3)
abbrev pub takes : World → Object → ℕ → CatchRange → Bool
takes world object pc range =
    nat_le range.start pc && nat_lt pc range.end
    && option_map_or (λ class. is_sub world (type_of object) (class_type class)) range.catch true

-- nothing in the frame takes the thrown object: the frame goes, and its caller's operand stack is emptied; with one frame
-- left the run ends with the throw (JVM specification 2.6.5)
abbrev pub unwound : MachineState → ℕ → List MachineFrame → Step
unwound state r [] = Threw r
unwound state r (caller ∷ below) = Going (record state { frames = record caller { stack = [] } ∷ below })

-- an entry of an exception table, if one takes the thrown object, gives the place to go on at, with the object alone on the
-- operand stack (JVM specification 2.10)
abbrev pub handled : MachineState → ℕ → MachineFrame → List MachineFrame → Option CatchRange → Step
handled state r frame below (Some range) = Going
    (record state { frames = record frame { pc = range.handler; stack = values.Ref r ∷ [] } ∷ below; mode = Normal })
handled state r frame below None = unwound state r below

-- a step in throwing mode: the first entry of the running method's exception table that takes the thrown object handles it,
-- and without one the frame goes (JVM specification 2.10)
unfoldable pub throwing_step : Program → MachineState → ℕ → List MachineFrame → Option Step
throwing_step p state r [] = None
throwing_step p state r (frame ∷ below) = do
  m ← slice_get p.methods frame.method
  object ← object_at state.heap r
  Some (handled state r frame below (find (takes p.world object frame.pc) m.table))

-- ---- steps and runs

-- a step in a mode: normal, or throwing an object
abbrev pub step_in : Program → MachineState → Mode → Option Step
step_in p state Normal = normal_step p state state.frames
step_in p state (Throwing r) = throwing_step p state r state.frames

-- one step of the machine
unfoldable pub step : Program → MachineState → Step
step p state = unwrap_or (step_in p state state.mode) Stuck

-- a step from what a step gave: an ended run stays as it is
unfoldable pub step_on : Program → Step → Step
step_on p (Going state) = step p state
step_on p (Returned value) = Returned value
step_on p (Threw r) = Threw r
step_on p Stuck = Stuck

-- what so many steps of the machine give
abbrev pub run : Program → ℕ → MachineState → Step
run p zero state = Going state
run p (suc count) state = step_on p (run p count state)

-- a run has ended, by a return or by a throw that nothing catches
abbrev pub IsEnd : Step → Type 0
IsEnd (Going state) = ⊥
IsEnd (Returned value) = Unit {0}
IsEnd (Threw r) = Unit {0}
IsEnd Stuck = ⊥

-- some number of steps ends the run from a state
abbrev pub Ends : Program → MachineState → Type 0
Ends p state = (count : ℕ) × IsEnd (run p count state)

-- no number of steps makes the run from a state stuck
abbrev pub IsNeverStuck : Program → MachineState → Type 0
IsNeverStuck p state = (count : ℕ) → run p count state ≡ Stuck → ⊥

-- ---- the start

-- The state in which a run begins: one frame, of the method of number 0 at its first instruction, and normal mode. None
-- where there is no method. As at a call, more arguments than the method has locals would all be locals.
unfoldable pub start : Program → List Value → List Value → Heap → Option MachineState
start p arguments statics heap = do
  frame ← entered p 0 arguments
  Some (record { frames = frame ∷ []; heap = heap; mode = Normal; statics = statics })
