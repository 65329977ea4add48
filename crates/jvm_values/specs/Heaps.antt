-- The part of a heap that a value reaches, and its shapes.
use Rattle.std.specs.Prelude.{◌≡◌, ℕ, ◌<◌, List, [], length, Option, Some, None, slice_get, All}
use Rattle.std.specs.Option.{option_and_then}
use Rattle.jvm_values.specs.declared.heap.Value.{Value}
use Rattle.jvm_values.specs.declared.heap.Value.TheVariants as values
use Rattle.jvm_values.specs.declared.heap.Object.{Object}
use Rattle.jvm_values.specs.declared.heap.Object.TheVariants.{Instance, Nums, Refs}
use Rattle.jvm_values.specs.declared.heap.Heap.{Heap}
use Rattle.jvm_values.specs.declared.shape.Shape.{Shape}
use Rattle.jvm_values.specs.declared.shape.Shape.TheVariants.{Tree, Dag, Any}
use Rattle.jvm_values.specs.Paths.{Steps, Reaches, IsTreeFrom, IsDagFrom}

-- the object that a value names, by its number
abbrev pub target : Value → Option ℕ
target (values.Int n) = None
target values.Null = None
target (values.Ref r) = Some r

-- the values that an object holds, by field or item; those of an array of numbers are no values
abbrev pub values_of : Object → List Value
values_of (Instance class fields) = fields
values_of (Nums kind items) = []
values_of (Refs element items) = items

-- the value of a field or an item of an object of the heap
abbrev pub value_at : Heap → ℕ → ℕ → Option Value
value_at heap a i = option_and_then (λ object. slice_get (values_of object) i) (slice_get heap.objects a)

-- a step goes from an object through a field or an item to an object
abbrev pub heap_steps : Heap → Steps
heap_steps heap a i = option_and_then target (value_at heap a i)

-- `b` lies in the region of a value: a path leads there from the value's object, which lies in it itself. The region of
-- null is empty
pub record Region (heap : Heap) (value : Value) (b : ℕ) : Type 0 where
  pub start : ℕ
  pub names : target value ≡ Some start
  pub reaches : Reaches (heap_steps heap) start b

-- one path leads to each object of the region
abbrev pub IsTree : Heap → Value → Type 0
IsTree heap value = (a : ℕ) → target value ≡ Some a → IsTreeFrom (heap_steps heap) a

-- no cycle lies in the region
abbrev pub IsDag : Heap → Value → Type 0
IsDag heap value = (a : ℕ) → target value ≡ Some a → IsDagFrom (heap_steps heap) a

-- a shape holds of the region of a value
abbrev pub HasShape : Shape → Heap → Value → Type 0
HasShape Tree heap value = IsTree heap value
HasShape Dag heap value = IsDag heap value
HasShape Any heap value = Unit {0}

-- a value names no object past the heap's end
abbrev pub IsInHeap : ℕ → Value → Type 0
IsInHeap count value = (a : ℕ) → target value ≡ Some a → a < count

-- no object of the heap holds a reference past the heap's end
abbrev pub IsClosed : Heap → Type 0
IsClosed heap = All (λ object. All (IsInHeap (length heap.objects)) (values_of object)) heap.objects
