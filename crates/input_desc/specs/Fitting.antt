-- Which states of the machine fit a description.
use Rattle.std.specs.Prelude.{◌≡◌, ◌≢◌, ◌⊎◌, ℕ, ℤ, true, List, [], ◌∷◌, ◌++◌, length, slice_get, Some, None, IsTrue}
use Rattle.std.specs.List.{AllZip}
use Rattle.abs_cells.specs.lin_core.Intervals.{IsIn}
use Rattle.jvm_values.specs.declared.heap.Value.{Value}
use Rattle.jvm_values.specs.declared.heap.Value.TheVariants as values
use Rattle.jvm_values.specs.declared.heap.Heap.{Heap}
use Rattle.jvm_values.specs.declared.state.Mode.TheVariants.{Normal}
use Rattle.jvm_values.specs.States.{MachineFrame, MachineState, locals_from}
use Rattle.jvm_values.specs.Heaps.{target, Region, HasShape}
use Rattle.jvm_values.specs.TypedHeaps.{WorldTypes, HasType, Holds, IsTypedHeap}
use Rattle.class_world.specs.WorldTypes.{types_of}
use Rattle.class_program.specs.declared.program.Method.{Method}
use Rattle.class_program.specs.Programs.{Program}
use Rattle.input_desc.specs.declared.desc.Input.{Input}
use Rattle.input_desc.specs.declared.desc.Input.TheVariants.{Int, Ref}
use Rattle.input_desc.specs.declared.desc.Desc.{Desc}
use Rattle.input_desc.specs.Given.{statics_of}

-- ---- one input

-- a value fits what is described of an input: an int of the interval; or a reference, null only where allowed, of the erased type
-- and the shape
abbrev pub FitsInput : WorldTypes → Heap → Input → Value → Type 0
FitsInput types heap (Int interval) value = (n : ℤ) × ((value ≡ values.Int n) × IsIn n interval)
FitsInput types heap (Ref ty null shape) value = (value ≡ values.Null → IsTrue null)
    × (HasType types heap value ty × HasShape shape heap value)

-- ---- pairs

-- the two numbers are listed as a pair, in either order
abbrev pub IsListed : ℕ → ℕ → List (ℕ × ℕ) → Type 0
IsListed i j [] = ⊥
IsListed i j (pair ∷ pairs) = ((pair.0 ≡ i) × (pair.1 ≡ j)) ⊎ (((pair.0 ≡ j) × (pair.1 ≡ i)) ⊎ IsListed i j pairs)

-- ---- the whole

-- the frame of a method at its start (JVM specification, section 2.6): the arguments in the first locals, the others unset, an
-- empty operand stack
pub record IsStart (method : Method) (args : List Value) (frame : MachineFrame) : Type 0 where
  pub number : frame.method ≡ 0
  pub place : frame.pc ≡ 0
  pub locals : frame.locals ≡ locals_from Some None method.max_locals args
  pub room : length frame.locals ≡ method.max_locals
  pub stack : frame.stack ≡ []

-- A state of the machine fits a description: one frame of the entry method at its start, in normal mode; as many values of static
-- fields as the program has, each of its erased declared type and each int in its kind's range; a typed heap that holds every
-- reference. Each input fits. Two inputs are one object only where `same` lists them, and what they reach has an object in common
-- only where `share` or `same` does.
pub record FitsDescription (p : Program) (desc : Desc) (state : MachineState) : Type 0 where
  pub method : Method
  pub entry : slice_get p.methods 0 ≡ Some method
  pub args : List Value
  pub frame : MachineFrame
  pub one : state.frames ≡ frame ∷ []
  pub start : IsStart method args frame
  pub normal : state.mode ≡ Normal
  pub count : length args ≡ length method.params
  pub statics : AllZip (Holds (types_of p.world) state.heap) (statics_of p) state.statics
  pub typed : IsTypedHeap (types_of p.world) state.heap
  pub inputs : AllZip (FitsInput (types_of p.world) state.heap) desc.inputs (args ++ state.statics)
  pub same : (i j o : ℕ) (v w : Value) → i ≢ j → slice_get (args ++ state.statics) i ≡ Some v
      → slice_get (args ++ state.statics) j ≡ Some w → target v ≡ Some o → target w ≡ Some o → IsListed i j desc.same
  pub share : (i j o : ℕ) (v w : Value) → i ≢ j → slice_get (args ++ state.statics) i ≡ Some v
      → slice_get (args ++ state.statics) j ≡ Some w → Region state.heap v o → Region state.heap w o
      → IsListed i j (desc.same ++ desc.share)
