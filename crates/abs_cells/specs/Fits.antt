-- Which states of the written machine an abstract state describes, by a map from ids to values.
use Rattle.std.specs.Prelude.{◌≡◌, ◌≢◌, ℕ, true, List, [], ◌∷◌, ◌++◌, map, length, IsTrue, ◌⊎◌, ℤ, pos, Option, Some, None, slice_get}
use Rattle.std.specs.List.{AllZip}
use Rattle.lin_core.specs.Intervals.{IsIn}
use Rattle.jvm_values.specs.declared.heap.Value.{Value}
use Rattle.jvm_values.specs.declared.heap.Value.TheVariants as values
use Rattle.jvm_values.specs.declared.heap.Object.{Object}
use Rattle.jvm_values.specs.declared.heap.Object.TheVariants as objects
use Rattle.jvm_values.specs.declared.heap.Heap.{Heap}
use Rattle.jvm_values.specs.declared.shape.Shape.{Shape}
use Rattle.jvm_values.specs.declared.types.Ty.{Ty}
use Rattle.jvm_values.specs.declared.types.Kind.{Kind}
use Rattle.jvm_values.specs.declared.state.Mode.{Mode}
use Rattle.jvm_values.specs.declared.state.Mode.TheVariants.{Normal, Throwing}
use Rattle.jvm_values.specs.States.{MachineFrame, MachineState}
use Rattle.jvm_values.specs.Heaps.{target, Region, HasShape, IsInHeap, IsClosed}
use Rattle.jvm_values.specs.TypedHeaps.{WorldTypes, type_of}
use Rattle.abs_cells.specs.declared.cells.Cell.{Cell}
use Rattle.abs_cells.specs.declared.cells.Cell.TheVariants.{Int, Null, Obj, Nums, Refs, Unk}
use Rattle.abs_cells.specs.AbstractStates.{AbstractFrame, AbstractState}
use Rattle.abs_cells.specs.Cells.{is_known, is_hazy, shape_of, cell_at, HasCell, AreEqual, Share}

-- a map from the ids of an abstract state to values of the machine; it counts only at ids that have a cell
abbrev pub Meaning : Type 0
Meaning = ℕ → Value

-- ---- positions

-- an abstract frame describes a frame of the machine: method, place and operand stack agree, and each local that has an id
-- has its value. A local that is unset, or that the abstract frame does not have, takes anything
pub record FitsFrame (meaning : Meaning) (frame : AbstractFrame) (machine : MachineFrame) : Type 0 where
  pub method : machine.method ≡ frame.method
  pub pc : machine.pc ≡ frame.pc
  pub locals : (n id : ℕ) → slice_get frame.locals n ≡ Some (Some id) → slice_get machine.locals n ≡ Some (Some (meaning id))
  pub stack : machine.stack ≡ map meaning frame.stack

-- the machine's frames with the values of the static fields behind the locals of the bottom frame, as abstract states hold
-- them
abbrev pub with_statics : List Value → List MachineFrame → List MachineFrame
with_statics statics [] = []
with_statics statics (frame ∷ []) = record frame { locals = frame.locals ++ map Some statics } ∷ []
with_statics statics (frame ∷ below ∷ rest) = frame ∷ with_statics statics (below ∷ rest)

-- ---- mode

-- the modes agree: no object is thrown in either, or the reference that the machine throws is the value of the thrown id
abbrev pub FitsMode : Meaning → Option ℕ → Mode → Type 0
FitsMode meaning None Normal = Unit {0}
FitsMode meaning None (Throwing r) = ⊥
FitsMode meaning (Some id) Normal = ⊥
FitsMode meaning (Some id) (Throwing r) = meaning id ≡ values.Ref r

-- ---- cells

-- a value names an object of the heap, and the object has a property
pub record IsObject (heap : Heap) (value : Value) (P : Object → Type 0) : Type 0 where
  pub place : ℕ
  pub object : Object
  pub names : value ≡ values.Ref place
  pub stands : slice_get heap.objects place ≡ Some object
  pub holds : P object

-- an object is an array of references whose element type is below a type, and an id's value is its length
pub record IsArrayBelow (types : WorldTypes) (meaning : Meaning) (element : Ty) (len : ℕ) (object : Object) : Type 0 where
  pub item : Ty
  pub items : List Value
  pub is : object ≡ objects.Refs item items
  pub below : IsTrue (types.sub item element)
  pub length_is : meaning len ≡ values.Int (pos (length items))

-- an object is an array of numbers of a kind, and an id's value is its length
pub record IsArrayOfNumbers (meaning : Meaning) (kind : Kind) (len : ℕ) (object : Object) : Type 0 where
  pub items : List ℤ
  pub is : object ≡ objects.Nums kind items
  pub length_is : meaning len ≡ values.Int (pos (length items))

-- a cell describes a value: an int in the interval, null, an instance of the class with the values of the cell's ids, an
-- array with the value of its length's id, or an object of a type below the bound, or null where the cell allows it
abbrev pub Describes : WorldTypes → Heap → Meaning → Cell → Value → Type 0
Describes types heap meaning (Int interval) value = (n : ℤ) × ((value ≡ values.Int n) × IsIn n interval)
Describes types heap meaning Null value = value ≡ values.Null
Describes types heap meaning (Obj class ids) value = IsObject heap value (λ object. object ≡ objects.Instance class (map meaning ids))
Describes types heap meaning (Nums kind len) value = IsObject heap value (IsArrayOfNumbers meaning kind len)
Describes types heap meaning (Refs element len shape) value = IsObject heap value (IsArrayBelow types meaning element len)
Describes types heap meaning (Unk bound nullable shape) value = ((nullable ≡ true) × (value ≡ values.Null))
    ⊎ IsObject heap value (λ object. IsTrue (types.sub (type_of object) bound))

-- ---- the whole

-- a state of the machine fits an abstract state by a map from ids to values
pub record Fits (types : WorldTypes) (state : AbstractState) (machine : MachineState) (meaning : Meaning) : Type 0 where
  -- methods, places and stack depths agree, and each position with an id has that id's value
  pub positions : AllZip (FitsFrame meaning) state.frames (with_statics machine.statics machine.frames)
  -- the modes agree, and the thrown reference is the thrown id's value
  pub mode : FitsMode meaning state.throwing machine.mode
  -- each cell describes its value
  pub cells : (id : ℕ) (cell : Cell) → cell_at state id ≡ Some cell → Describes types machine.heap meaning cell (meaning id)
  -- two ids with one object are a pair
  pub aliases : (a b o : ℕ) → HasCell (λ _. true) state a → HasCell (λ _. true) state b → a ≢ b → target (meaning a) ≡ Some o
      → target (meaning b) ≡ Some o → AreEqual state a b
  -- two hazy ids whose regions meet share, and so do a known id and a hazy one in whose region its object lies
  pub meeting : (a b o : ℕ) → HasCell is_hazy state a → HasCell is_hazy state b → a ≢ b → Region machine.heap (meaning a) o
      → Region machine.heap (meaning b) o → Share state a b
  pub inside : (k b o : ℕ) → HasCell is_known state k → HasCell is_hazy state b → target (meaning k) ≡ Some o
      → Region machine.heap (meaning b) o → Share state k b
  -- each hazy id's shape holds of its region
  pub shapes : (id : ℕ) (cell : Cell) (shape : Shape) → cell_at state id ≡ Some cell → shape_of cell ≡ Some shape
      → HasShape shape machine.heap (meaning id)

-- no reference that an object of the heap holds, or that an id stands for, leads past the heap's end
pub record IsClosedState (machine : MachineState) (state : AbstractState) (meaning : Meaning) : Type 0 where
  pub heap : IsClosed machine.heap
  pub ids : (id : ℕ) → HasCell (λ _. true) state id → IsInHeap (length machine.heap.objects) (meaning id)
