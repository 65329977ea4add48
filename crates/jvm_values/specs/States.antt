-- The states of the written machine, whose stacks are lists: the room of a stack is no part of them.
use Rattle.std.specs.Prelude.{ℕ, ◌-◌, List, ◌++◌, length, map, replicate, Option}
use Rattle.jvm_values.specs.declared.heap.Value.{Value}
use Rattle.jvm_values.specs.declared.heap.Heap.{Heap}
use Rattle.jvm_values.specs.declared.state.Frame.{Frame}
use Rattle.jvm_values.specs.declared.state.Mode.{Mode}
use Rattle.jvm_values.specs.declared.state.State.{State}
use Rattle.jvm_values.specs.declared.typing.PlaceType.{PlaceType}
use Rattle.jvm_values.specs.declared.typing.FrameType.{FrameType}

-- the frame of a call (JVM specification, section 2.6): the method's number, the place of its instruction, its locals,
-- and its operand stack from the top down
pub record MachineFrame : Type 0 where
  pub method : ℕ
  pub pc : ℕ
  pub locals : List (Option Value)
  pub stack : List Value

-- a state: the frames, the running call's first, the heap, the mode, and the values of the static fields
pub record MachineState : Type 0 where
  pub frames : List MachineFrame
  pub heap : Heap
  pub mode : Mode
  pub statics : List Value

-- the local variables of a method that begins (JVM specification, section 2.6.1): its arguments in the first ones, the others unset
abbrev pub locals_from : {A B : Type 0} → (A → B) → B → ℕ → List A → List B
locals_from set unset room arguments = map set arguments ++ replicate (room - length arguments) unset

-- a frame of the code as one of the written machine, whose stack is a list without room
abbrev pub frame_of : Frame → MachineFrame
frame_of frame = record { method = frame.method; pc = frame.pc; locals = frame.locals; stack = frame.stack.0 }

-- a state of the code as one of the written machine, its frames those of the running calls
abbrev pub state_of : State → MachineState
state_of state = record { frames = map frame_of state.frames.0; heap = state.heap; mode = state.mode; statics = state.statics }

-- the types of a frame's places, the stack from the top down
pub record PlaceTypes : Type 0 where
  pub locals : List PlaceType
  pub stack : List PlaceType

-- the types of a frame's places as lists, its stack without room
abbrev pub types_of : FrameType → PlaceTypes
types_of frame = record { locals = frame.locals; stack = frame.stack.0 }
