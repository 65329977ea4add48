-- States of the machine that have the types of a program's least typing (JVM specification, sections 2.6 and 4.10).
use Rattle.std.specs.Prelude.{◌≡◌, ℕ, ◌+◌, ◌<◌, List, [], ◌∷◌, length, drop, slice_get, Option, Some, None, All, IfSome}
use Rattle.std.specs.List.{AllZip}
use Rattle.jvm_values.specs.declared.heap.Value.{Value}
use Rattle.jvm_values.specs.declared.heap.Value.TheVariants as values
use Rattle.jvm_values.specs.declared.heap.Heap.{Heap}
use Rattle.jvm_values.specs.declared.types.Kind.TheVariants as kinds
use Rattle.jvm_values.specs.declared.typing.PlaceType.{PlaceType}
use Rattle.jvm_values.specs.declared.typing.PlaceType.TheVariants as places
use Rattle.jvm_values.specs.declared.state.Mode.{Mode}
use Rattle.jvm_values.specs.declared.state.Mode.TheVariants.{Normal, Throwing}
use Rattle.jvm_values.specs.States.{MachineFrame, MachineState, PlaceTypes}
use Rattle.jvm_values.specs.Kinds.{IsOfKind}
use Rattle.jvm_values.specs.Heaps.{IsInHeap}
use Rattle.jvm_values.specs.Subtyping.{class_type}
use Rattle.jvm_values.specs.TypedHeaps.{WorldTypes, HasType, Holds, IsTypedHeap}
use Rattle.class_program.specs.class_world.WorldTypes.{types_of}
use Rattle.class_program.specs.class_world.BuiltIns.{throwable}
use Rattle.class_program.specs.declared.op.Op.{Op}
use Rattle.class_program.specs.declared.op.Op.TheVariants as ops
use Rattle.class_program.specs.declared.program.Method.{Method}
use Rattle.class_program.specs.Programs.{Program, op_at}
use Rattle.class_program.specs.Selected.{CanRun}
use Rattle.frame_types.specs.Tables.{CodeTypes}

-- ---- values

-- a local, which may be unset, is what a place's type says; an int is one of 32 bits
abbrev pub HasPlaceType : WorldTypes → Heap → PlaceType → Option Value → Type 0
HasPlaceType types heap places.Unset local = Unit {0}
HasPlaceType types heap places.Int (Some (values.Int n)) = IsOfKind kinds.Int n
HasPlaceType types heap places.Int (Some values.Null) = ⊥
HasPlaceType types heap places.Int (Some (values.Ref r)) = ⊥
HasPlaceType types heap places.Null (Some (values.Int n)) = ⊥
HasPlaceType types heap places.Null (Some values.Null) = Unit {0}
HasPlaceType types heap places.Null (Some (values.Ref r)) = ⊥
HasPlaceType types heap (places.Ref t) (Some value) = HasType types heap value t
HasPlaceType types heap places.Int None = ⊥
HasPlaceType types heap places.Null None = ⊥
HasPlaceType types heap (places.Ref t) None = ⊥

-- an operand stack has the types of places
abbrev pub HasStack : WorldTypes → Heap → List PlaceType → List Value → Type 0
HasStack types heap wanted stack = AllZip (λ place value. HasPlaceType types heap place (Some value)) wanted stack

-- ---- frames

-- A frame of a method of the program has the types of its place: it has as many locals as its method says, the typing has
-- the place, the locals have the types there, and no reference of the frame leads past the heap's end.
pub record IsTypedFrame (p : Program) (typing : ℕ → CodeTypes) (heap : Heap) (frame : MachineFrame) (there : PlaceTypes) : Type 0 where
  pub method : Method
  pub is_method : slice_get p.methods frame.method ≡ Some method
  pub count : length frame.locals ≡ method.max_locals
  pub is_there : typing frame.method frame.pc ≡ Some there
  pub locals : AllZip (HasPlaceType (types_of p.world) heap) there.locals frame.locals
  pub local_references : All (λ local. IfSome local (IsInHeap (length heap.objects))) frame.locals
  pub stack_references : All (IsInHeap (length heap.objects)) frame.stack

-- the running frame has the types of its place, and so has its operand stack
pub record IsRunning (p : Program) (typing : ℕ → CodeTypes) (heap : Heap) (frame : MachineFrame) : Type 0 where
  pub there : PlaceTypes
  pub typed : IsTypedFrame p typing heap frame there
  pub stack : HasStack (types_of p.world) heap there.stack frame.stack

-- the frame in which a throw looks for a handler has the types of its place, and its operand stack is empty (JVM
-- specification 2.10)
pub record IsUnwinding (p : Program) (typing : ℕ → CodeTypes) (heap : Heap) (frame : MachineFrame) : Type 0 where
  pub there : PlaceTypes
  pub typed : IsTypedFrame p typing heap frame there
  pub stack : frame.stack ≡ []

-- ---- callers

-- how many values a call takes from the operand stack: its arguments, and a receiver unless the method is static
abbrev pub argument_count : Op → ℕ
argument_count (ops.Invokestatic call) = length call.params
argument_count (ops.Invokespecial call) = length call.params + 1
argument_count (ops.Invokevirtual call) = length call.params + 1
argument_count (ops.Invokeinterface call) = length call.params + 1
argument_count _ = 0

-- a frame that waits for a call of the method of a number has the types of its place: an instruction stands there that can
-- run that method, and the operand stack has the types without those of the arguments
pub record IsCaller (p : Program) (typing : ℕ → CodeTypes) (heap : Heap) (callee : ℕ) (frame : MachineFrame) : Type 0 where
  pub there : PlaceTypes
  pub typed : IsTypedFrame p typing heap frame there
  pub op : Op
  pub stands : op_at p.methods frame.method frame.pc ≡ Some op
  pub runs : CanRun p op callee
  pub stack : HasStack (types_of p.world) heap (drop (argument_count op) there.stack) frame.stack

-- the frames below the one of a method of a number have the types of their places: each waits for the one above it
abbrev pub AreCallers : Program → (ℕ → CodeTypes) → Heap → ℕ → List MachineFrame → Type 0
AreCallers p typing heap callee [] = Unit {0}
AreCallers p typing heap callee (frame ∷ below) = IsCaller p typing heap callee frame × AreCallers p typing heap frame.method below

-- ---- states

-- The top frame has the types of its place by the mode: in normal mode it runs. In throwing mode it is being unwound, and
-- the thrown object is below Throwable.
abbrev pub IsTop : Program → (ℕ → CodeTypes) → Heap → Mode → MachineFrame → Type 0
IsTop p typing heap Normal frame = IsRunning p typing heap frame
IsTop p typing heap (Throwing r) frame = IsUnwinding p typing heap frame
    × HasType (types_of p.world) heap (values.Ref r) (class_type throwable)

-- the frames of a state have the types of their places, and there is one at least
abbrev pub AreTypedFrames : Program → (ℕ → CodeTypes) → Heap → Mode → List MachineFrame → Type 0
AreTypedFrames p typing heap mode [] = ⊥
AreTypedFrames p typing heap mode (frame ∷ below) = IsTop p typing heap mode frame × AreCallers p typing heap frame.method below

-- A state of the machine has the types of a program's typing. Its statics' values are as many as the program's static
-- fields, each such as its field says.
pub record IsTypedState (p : Program) (typing : ℕ → CodeTypes) (state : MachineState) : Type 0 where
  pub heap : IsTypedHeap (types_of p.world) state.heap
  pub statics : AllZip (λ field value. Holds (types_of p.world) state.heap field.slot value) p.statics state.statics
  pub frames : AreTypedFrames p typing state.heap state.mode state.frames
