-- What the calls promise: whatever fits a state fits one of its children, by an edge.
use Rattle.std.specs.Prelude.{◌≡◌, ◌≢◌, ◌⊎◌, ℕ, ◌<◌, Bool, true, false, not, IsTrue, List, [], ◌∷◌, ◌++◌, length, map, Option, Some}
use Rattle.std.specs.Prelude.{None, slice_get, slice_set, pos, replicate}
use Rattle.jvm_values.specs.declared.types.Ty.{Ty}
use Rattle.jvm_values.specs.declared.types.Slot.{Slot}
use Rattle.jvm_values.specs.declared.types.Slot.TheVariants as slots
use Rattle.jvm_values.specs.declared.heap.Value.{Value}
use Rattle.jvm_values.specs.declared.heap.Value.TheVariants as values
use Rattle.jvm_values.specs.declared.heap.Object.{Object}
use Rattle.jvm_values.specs.declared.heap.Object.TheVariants as objects
use Rattle.jvm_values.specs.declared.heap.Heap.{Heap}
use Rattle.jvm_values.specs.declared.shape.Shape.{Shape}
use Rattle.jvm_values.specs.Subtyping.{IsReference}
use Rattle.jvm_values.specs.States.{MachineState}
use Rattle.jvm_values.specs.Heaps.{target}
use Rattle.jvm_values.specs.TypedHeaps.{WorldTypes, AreLawful, HasType, IsTypedHeap}
use Rattle.jvm_values.specs.Writes.{IsWritten, AreRenumbered}
use Rattle.jvm_values.specs.Slots.{initial_value}
use Rattle.std.specs.List.{AllZip}
use Rattle.abs_cells.specs.declared.cells.Cell.{Cell}
use Rattle.abs_cells.specs.declared.cells.Cell.TheVariants as cells
use Rattle.abs_cells.specs.AbstractStates.{AbstractState}
use Rattle.abs_cells.specs.Cells.{is_int, is_known, is_reference, is_comparable, cell_at, HasCell, AreEqual}
use Rattle.abs_cells.specs.Sound.{IsWellFormed, IsSound, IsSoundCell}
use Rattle.abs_cells.specs.Fits.{Meaning, Describes, Fits, IsClosedState}
use Rattle.term_graph.specs.declared.links.Link.{Link}
use Rattle.term_graph.specs.Edges.{Edge}
use Rattle.abs_heap.specs.Given.{with_cells}
use Rattle.abs_heap.specs.Refining.{IsCase, cases_of, IsWithCell, AreEqualChildren}
use Rattle.abs_heap.specs.Writing.{Write, IsWriteChild, IsItemChild, IsObjectChild, IsNewArrayChild}

-- the link of an edge without rows, which is a step or none, and merges one id into another or none
abbrev pub plain_link : Bool → Option (ℕ × ℕ) → Link
plain_link step merged = record { rows = []; merged = merged; step = step }

-- a state of the machine fits a child of an abstract state by some map, and the edge to the child holds
pub record Goes (types : WorldTypes) (state : AbstractState) (machine : MachineState) (meaning : Meaning) (link : Link)
    (child : AbstractState) (machine_after : MachineState) : Type 0 where
  pub meaning_after : Meaning
  pub fits : Fits types child machine_after meaning_after
  pub edge : Edge state machine meaning link child machine_after meaning_after

-- Whatever fits a state in which an id is nullable fits the child in which it is null, or the one in which it is an object.
abbrev pub NullSplits : Type 0
NullSplits =
    (types : WorldTypes) (state first second : AbstractState) (machine : MachineState) (meaning : Meaning) (x : ℕ) (bound : Ty)
    (shape : Shape)
    → IsWellFormed state → Fits types state machine meaning → cell_at state x ≡ Some (cells.Unk bound true shape)
    → IsWithCell state x cells.Null first → IsWithCell state x (cells.Unk bound false shape) second
    → Goes types state machine meaning (plain_link false None) first machine
    ⊎ Goes types state machine meaning (plain_link false None) second machine

-- a state of the machine fits some child of a list, to which the edge of no step and no merged ids holds
pub record GoesToCase (types : WorldTypes) (state : AbstractState) (machine : MachineState) (meaning : Meaning)
    (children : List AbstractState) : Type 0 where
  pub n : ℕ
  pub child : AbstractState
  pub is : slice_get children n ≡ Some child
  pub goes : Goes types state machine meaning (plain_link false None) child machine

-- a state of the machine fits some child of a list in which each child has the pair of ids that it merged, or none; and the
-- edge to it holds
pub record GoesToMerged (types : WorldTypes) (state : AbstractState) (machine : MachineState) (meaning : Meaning)
    (children : List (Option (ℕ × ℕ) × AbstractState)) : Type 0 where
  pub n : ℕ
  pub merged : Option (ℕ × ℕ)
  pub child : AbstractState
  pub is : slice_get children n ≡ Some (merged, child)
  pub goes : Goes types state machine meaning (plain_link false merged) child machine

-- Whatever fits a state in which an id's object is below a bound fits the child of some case, if the object is of the
-- wanted type and no known id may stand for it.
abbrev pub ClassesSplit : Type 0
ClassesSplit =
    (types : WorldTypes) (state : AbstractState) (children : List AbstractState) (machine : MachineState) (meaning : Meaning)
    (x : ℕ) (bound wanted : Ty) (shape : Shape)
    → AreLawful types → IsSound types state → IsTypedHeap types machine.heap → IsClosedState machine state meaning
    → Fits types state machine meaning
    → cell_at state x ≡ Some (cells.Unk bound false shape) → IsTrue (is_comparable types.sub bound wanted)
    → HasType types machine.heap (meaning x) wanted
    → ((k : ℕ) → HasCell is_known state k → AreEqual state x k → ⊥)
    → AllZip (IsCase types state x shape) (cases_of types bound wanted) children
    → GoesToCase types state machine meaning children

-- Whatever fits a state in which two ids may be one object fits the child in which they are one, or the one in which they
-- are two.
abbrev pub EqualSplits : Type 0
EqualSplits =
    (types : WorldTypes) (state : AbstractState) (children : List (Option (ℕ × ℕ) × AbstractState)) (machine : MachineState)
    (meaning : Meaning) (x y : ℕ)
    → AreLawful types → IsSound types state → IsTypedHeap types machine.heap → IsClosedState machine state meaning
    → Fits types state machine meaning
    → AreEqual state x y → x ≢ y → AreEqualChildren types.sub state x y children
    → GoesToMerged types state machine meaning children

-- a state of the machine with another heap
abbrev pub with_heap : MachineState → Heap → MachineState
with_heap machine heap = record machine { heap = heap }

-- what a write of an abstract state changes in the heap: the field of an instance, at the same place, or an item of an
-- array of references, at any place
pub record IsWriteOf (state : AbstractState) (write : Write) (place : ℕ) (cell : Cell) : Type 0 where
  pub field_is : (field : ℕ) → write.field ≡ Some field
      → (place ≡ field) × ((class : ℕ) × (ids : List ℕ) × ((cell ≡ cells.Obj class ids) × (field < length ids)))
  pub array_is : write.field ≡ None → (element : Ty) × (len : ℕ) × (shape : Shape) × (cell ≡ cells.Refs element len shape)

-- What fits a state fits, after a reference was written into a field or an item, the child of that write.
abbrev pub WritesGoOn : Type 0
WritesGoOn =
    (types : WorldTypes) (state child : AbstractState) (machine : MachineState) (meaning : Meaning) (write : Write) (cell : Cell)
    (o place : ℕ) (heap : Heap)
    → IsWellFormed state → IsClosedState machine state meaning → Fits types state machine meaning
    → HasCell (λ c. not (is_int c)) state write.value → cell_at state write.object ≡ Some cell → IsWriteOf state write place cell
    → target (meaning write.object) ≡ Some o
    → IsWritten machine.heap o place (meaning write.value) heap
    → IsWriteChild state write child
    → Goes types state machine meaning (plain_link true None) child (with_heap machine heap)

-- each cell of an abstract state is sound for a world's types, but for those of ints, of which nothing is asked
abbrev pub AreSoundReferences : WorldTypes → AbstractState → Type 0
AreSoundReferences types state = (id : ℕ) (cell : Cell) → cell_at state id ≡ Some cell → is_int cell ≡ false → IsSoundCell types state cell

-- a state of the machine fits a child of an abstract state by a map in which one id has a given value and the other ids
-- have their old values, and the edge of one step to the child holds
pub record GoesWith (types : WorldTypes) (state : AbstractState) (machine : MachineState) (meaning : Meaning)
    (child : AbstractState) (machine_after : MachineState) (id : ℕ) (value : Value) : Type 0 where
  pub meaning_after : Meaning
  pub fits : Fits types child machine_after meaning_after
  pub value_is : meaning_after id ≡ value
  pub others : (other : ℕ) → HasCell (λ _. true) state other → meaning_after other ≡ meaning other
  pub edge : Edge state machine meaning (plain_link true None) child machine_after meaning_after

-- What fits a state fits the child in which an item of an array of references is read, and the item's id has the item's
-- value.
abbrev pub ItemsGoOn : Type 0
ItemsGoOn =
    (types : WorldTypes) (state child : AbstractState) (machine : MachineState) (meaning : Meaning) (k item o n : ℕ)
    (element own : Ty) (len : ℕ) (shape : Shape) (items : List Value) (value : Value)
    → AreLawful types → IsWellFormed state → AreSoundReferences types state → IsTypedHeap types machine.heap
    → IsClosedState machine state meaning → Fits types state machine meaning
    → cell_at state k ≡ Some (cells.Refs element len shape) → target (meaning k) ≡ Some o
    → slice_get machine.heap.objects o ≡ Some (objects.Refs own items) → slice_get items n ≡ Some value
    → IsItemChild types.sub state k element shape item child
    → GoesWith types state machine meaning child machine item value

-- a heap with a new object at its end
abbrev pub heap_with : Heap → Object → Heap
heap_with heap object = record { objects = heap.objects ++ (object ∷ []) }

-- What fits a state fits, with a new instance at the heap's end, the child that makes it, and its id has the reference to
-- it as value.
abbrev pub ObjectsGoOn : Type 0
ObjectsGoOn =
    (types : WorldTypes) (state child : AbstractState) (machine : MachineState) (meaning : Meaning) (class id : ℕ)
    → IsWellFormed state → IsClosedState machine state meaning → Fits types state machine meaning
    → class < types.classes → IsTrue (types.can_be_made class)
    → IsObjectChild types state class id child
    → GoesWith types state machine meaning child
    (with_heap machine (heap_with machine.heap (objects.Instance class (map initial_value (types.fields class))))) id
    (values.Ref (length machine.heap.objects))

-- a new array of so many items, which are 0 or null (JVM specification 2.3 and 2.4)
abbrev pub zeros_of : Slot → ℕ → Object
zeros_of (slots.Num kind) count = objects.Nums kind (replicate count (pos 0))
zeros_of (slots.Ref t) count = objects.Refs t (replicate count values.Null)

-- an array may have items of a type: of any kind of numbers, or of a reference type of the world with fewer than 255
-- dimensions
abbrev pub IsItemSlot : WorldTypes → Slot → Type 0
IsItemSlot types (slots.Num kind) = Unit {0}
IsItemSlot types (slots.Ref t) = IsReference types.classes t × (t.dims < 255)

-- What fits a state fits, with a new array at the heap's end whose length is an id's int, the child that makes it, and its
-- id has the reference to it as value.
abbrev pub ArraysGoOn : Type 0
ArraysGoOn =
    (types : WorldTypes) (state child : AbstractState) (machine : MachineState) (meaning : Meaning) (element : Slot) (len id count : ℕ)
    → AreLawful types → IsWellFormed state → IsClosedState machine state meaning → Fits types state machine meaning
    → IsItemSlot types element → HasCell is_int state len → meaning len ≡ values.Int (pos count)
    → IsNewArrayChild types.erase state element len id child
    → GoesWith types state machine meaning child (with_heap machine (heap_with machine.heap (zeros_of element count))) id
    (values.Ref (length machine.heap.objects))

-- ---- ints

-- What fits a state fits the child in which a fresh id has a cell of an int or of null, with any value that the cell
-- describes.
abbrev pub ValuesGoOn : Type 0
ValuesGoOn =
    (types : WorldTypes) (state child : AbstractState) (machine : MachineState) (meaning : Meaning) (id : ℕ) (cell : Cell) (value : Value)
    → IsWellFormed state → Fits types state machine meaning
    → is_reference cell ≡ false → Describes types machine.heap meaning cell value
    → cell_at state id ≡ None → IsWithCell state id cell child
    → GoesWith types state machine meaning child machine id value

-- a state of the machine fits a child of an abstract state by the map of its parent, and the edge of one step to it holds
pub record GoesAlike (types : WorldTypes) (state : AbstractState) (machine : MachineState) (meaning : Meaning)
    (child : AbstractState) (machine_after : MachineState) : Type 0 where
  pub fits : Fits types child machine_after meaning
  pub edge : Edge state machine meaning (plain_link true None) child machine_after meaning

-- an abstract state differs from another one in its cells alone
pub record HasOtherCells (state : AbstractState) (cell : ℕ → Option Cell) (child : AbstractState) : Type 0 where
  pub frames_are : child.frames ≡ state.frames
  pub throwing_is : child.throwing ≡ state.throwing
  pub eq_is : child.eq ≡ state.eq
  pub share_is : child.share ≡ state.share
  pub cells : (id : ℕ) → cell_at child id ≡ cell id

-- What fits a state fits, after an int was written into a field of a known instance, the child in which the instance names
-- the written id there; nothing else changes.
abbrev pub IntWritesGoOn : Type 0
IntWritesGoOn =
    (types : WorldTypes) (state child : AbstractState) (machine : MachineState) (meaning : Meaning) (k class place old value o : ℕ)
    (ids : List ℕ) (heap : Heap)
    → IsWellFormed state → Fits types state machine meaning
    → cell_at state k ≡ Some (cells.Obj class ids) → slice_get ids place ≡ Some old → HasCell is_int state old → HasCell is_int state value
    → target (meaning k) ≡ Some o → IsWritten machine.heap o place (meaning value) heap
    → HasOtherCells state (with_cells ((k, cells.Obj class (slice_set ids place value)) ∷ []) state) child
    → GoesAlike types state machine meaning child (with_heap machine heap)

-- What fits a state still fits it after items of an array of numbers changed, if the array has as many as before.
abbrev pub NumberWritesGoOn : Type 0
NumberWritesGoOn =
    (types : WorldTypes) (state : AbstractState) (machine : MachineState) (meaning : Meaning) (o : ℕ) (heap : Heap)
    → IsWellFormed state → Fits types state machine meaning
    → (write : AreRenumbered machine.heap o heap) → length write.after ≡ length write.before
    → GoesAlike types state machine meaning state (with_heap machine heap)
