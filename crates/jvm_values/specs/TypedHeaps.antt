-- Heaps whose objects and values have the types that a world of classes gives them.
use Rattle.std.specs.Prelude.{◌≡◌, ℕ, ◌<◌, ◌≤◌, Bool, List, length, All, IsTrue, Some, slice_get}
use Rattle.std.specs.List.{AllZip}
use Rattle.jvm_values.specs.declared.types.Ty.{Ty}
use Rattle.jvm_values.specs.declared.types.Slot.{Slot}
use Rattle.jvm_values.specs.declared.types.Slot.TheVariants as slots
use Rattle.jvm_values.specs.declared.heap.Value.{Value}
use Rattle.jvm_values.specs.declared.heap.Value.TheVariants as values
use Rattle.jvm_values.specs.declared.heap.Object.{Object}
use Rattle.jvm_values.specs.declared.heap.Object.TheVariants.{Instance, Nums, Refs}
use Rattle.jvm_values.specs.declared.heap.Heap.{Heap}
use Rattle.jvm_values.specs.Kinds.{IsOfKind}
use Rattle.jvm_values.specs.Heaps.{IsClosed}
use Rattle.jvm_values.specs.Subtyping.{class_type, array_of, array_of_numbers, IsReference, SubtypeLaws}

-- what a world tells of its types
pub record WorldTypes : Type 0 where
  pub sub : Ty → Ty → Bool
  pub erase : Ty → Ty
  pub classes : ℕ
  pub fields : ℕ → List Slot
  pub can_be_made : ℕ → Bool

-- what a world tells of its types obeys the laws of subtypes
abbrev pub AreLawful : WorldTypes → Type 0
AreLawful types = SubtypeLaws types.sub types.erase types.classes types.fields types.can_be_made

-- a relation of subtypes, an erasure, the number of classes, their fields, and which can be made, as what a world
-- tells
abbrev pub world_types : (Ty → Ty → Bool) → (Ty → Ty) → ℕ → (ℕ → List Slot) → (ℕ → Bool) → WorldTypes
world_types sub erase classes fields can_be_made = record
    { sub = sub; erase = erase; classes = classes; fields = fields; can_be_made = can_be_made }

-- the exact type of an object
abbrev pub type_of : Object → Ty
type_of (Instance class fields) = class_type class
type_of (Nums kind items) = array_of_numbers kind
type_of (Refs element items) = array_of element

-- a value is null, or names an object of the heap whose type is below a type
abbrev pub HasType : WorldTypes → Heap → Value → Ty → Type 0
HasType types heap (values.Int n) t = ⊥
HasType types heap values.Null t = Unit {0}
HasType types heap (values.Ref r) t = (object : Object)
    × ((slice_get heap.objects r ≡ Some object) × IsTrue (types.sub (type_of object) t))

-- a value may stand in a field: a number of the field's kind, or a value of its erased type
abbrev pub Holds : WorldTypes → Heap → Slot → Value → Type 0
Holds types heap (slots.Num kind) (values.Int n) = IsOfKind kind n
Holds types heap (slots.Num kind) values.Null = ⊥
Holds types heap (slots.Num kind) (values.Ref r) = ⊥
Holds types heap (slots.Ref t) value = HasType types heap value (types.erase t)

-- an object of a class that can be made, with a value for each of its fields; or an array of at most 2^31 - 1 items,
-- each of the array's own kind or type (JVM specification, sections 2.4, 6.5.newarray and 6.5.anewarray)
abbrev pub IsTypedObject : WorldTypes → Heap → Object → Type 0
IsTypedObject types heap (Instance class fields) = (class < types.classes)
    × (IsTrue (types.can_be_made class) × AllZip (Holds types heap) (types.fields class) fields)
IsTypedObject types heap (Nums kind items) = (length items ≤ 2147483647) × All (IsOfKind kind) items
IsTypedObject types heap (Refs element items) = (length items ≤ 2147483647)
    × ((element.dims < 255) × (IsReference types.classes element × All (λ value. HasType types heap value element) items))

-- every object of a heap has what its class or its array type asks for
abbrev pub IsTypedHeap : WorldTypes → Heap → Type 0
IsTypedHeap types heap = All (IsTypedObject types heap) heap.objects

-- In a typed heap no object holds a reference past the heap's end.
abbrev pub TypedHeapsAreClosed : Type 0
TypedHeapsAreClosed = (types : WorldTypes) (heap : Heap) → IsTypedHeap types heap → IsClosed heap
