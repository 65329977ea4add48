-- What a write does to regions: three facts about a heap in which one field or item of an object is set to a value, and
-- nothing else changes; and two about writes of numbers, which change no reference. "Old" is before the write, "new"
-- after it.
use Rattle.std.specs.Prelude.{◌≡◌, ℕ, ℤ, List, ◌⊎◌, ◌↔◌, Some, None, slice_get, slice_set}
use Rattle.jvm_values.specs.declared.types.Kind.{Kind}
use Rattle.jvm_values.specs.declared.heap.Value.{Value}
use Rattle.jvm_values.specs.declared.heap.Value.TheVariants as values
use Rattle.jvm_values.specs.declared.heap.Object.{Object}
use Rattle.jvm_values.specs.declared.heap.Object.TheVariants.{Instance, Nums, Refs}
use Rattle.jvm_values.specs.declared.heap.Heap.{Heap}
use Rattle.jvm_values.specs.declared.shape.Shape.{Shape}
use Rattle.jvm_values.specs.Paths.{follow, Reaches}
use Rattle.jvm_values.specs.Heaps.{target, value_at, heap_steps, Region, IsDag, HasShape}
use Rattle.jvm_values.specs.Terms.{HeapTerm, IsTerm}

-- an object with another value in one field or item
abbrev pub with_value : ℕ → Value → Object → Object
with_value place value (Instance class fields) = Instance class (slice_set fields place value)
with_value place value (Nums kind items) = Nums kind items
with_value place value (Refs element items) = Refs element (slice_set items place value)

-- the new heap is the old one with a value in one field or item of object `o`
pub record IsWritten (old : Heap) (o place : ℕ) (value : Value) (new : Heap) : Type 0 where
  pub object : Object
  pub stands : slice_get old.objects o ≡ Some object
  pub objects : new.objects ≡ slice_set old.objects o (with_value place value object)

-- a value has the same region, the same paths in it, the same shapes and the same term in two heaps
pub record IsKept (old new : Heap) (x : Value) : Type 0 where
  pub region : (b : ℕ) → Region new x b ↔ Region old x b
  pub paths : (a : ℕ) → target x ≡ Some a → (path : List ℕ) → follow (heap_steps new) path a ≡ follow (heap_steps old) path a
  pub shape : (shape : Shape) → HasShape shape new x ↔ HasShape shape old x
  pub term : (term : HeapTerm) → IsTerm new x term ↔ IsTerm old x term

-- First: a value whose old region lacks the object keeps its region, the paths in it, its shapes and its term.
abbrev pub WriteKeeps : Type 0
WriteKeeps =
    (old new : Heap) (o place : ℕ) (value : Value) → IsWritten old o place value new
    → (x : Value) → (Region old x o → ⊥) → IsKept old new x

-- A path of the new heap is one of the old heap, or its start reached the object, and the written value its end.
abbrev pub PathSplits : Type 0
PathSplits =
    (old new : Heap) (o place : ℕ) (value : Value) → IsWritten old o place value new
    → (path : List ℕ) (a b : ℕ) → follow (heap_steps new) path a ≡ Some b
    → (follow (heap_steps old) path a ≡ Some b) ⊎ (Reaches (heap_steps old) a o × Region old value b)

-- what a value's new region has: the object where it had it, and nothing but what its old region had, and, where that had
-- the object, what the written value's had
pub record HasGained (old new : Heap) (o : ℕ) (value x : Value) : Type 0 where
  pub object : Region old x o → Region new x o
  pub others : (b : ℕ) → Region new x b → Region old x b ⊎ (Region old x o × Region old value b)

-- Second: a value whose old region has the object still has it, and gains at most the old region of the written value.
abbrev pub WriteGains : Type 0
WriteGains =
    (old new : Heap) (o place : ℕ) (value : Value) → IsWritten old o place value new
    → (x : Value) → HasGained old new o value x

-- Third: where the written value did not reach the object, and neither its region nor a value's had a cycle, that
-- value's new region has none.
abbrev pub WriteMakesNoCycle : Type 0
WriteMakesNoCycle =
    (old new : Heap) (o place : ℕ) (value : Value) → IsWritten old o place value new
    → (Region old value o → ⊥) → IsDag old value → (x : Value) → IsDag old x → IsDag new x

-- And where null is written, or an int, each value keeps the shapes that it had.
abbrev pub NullKeepsShapes : Type 0
NullKeepsShapes =
    (old new : Heap) (o place : ℕ) (value : Value) → IsWritten old o place value new
    → target value ≡ None → (shape : Shape) (x : Value) → HasShape shape old x → HasShape shape new x

-- An int that is written over an int: every value keeps its region, the paths in it, its shapes and its term, also one
-- whose region has the object.
abbrev pub IntWritesKeep : Type 0
IntWritesKeep =
    (old new : Heap) (o place : ℕ) (before after : ℤ) → IsWritten old o place (values.Int after) new
    → value_at old o place ≡ Some (values.Int before) → (x : Value) → IsKept old new x

-- the new heap is the old one with other items in the array of numbers `o`
pub record AreRenumbered (old : Heap) (o : ℕ) (new : Heap) : Type 0 where
  pub kind : Kind
  pub before : List ℤ
  pub after : List ℤ
  pub stands : slice_get old.objects o ≡ Some (Nums kind before)
  pub objects : new.objects ≡ slice_set old.objects o (Nums kind after)

-- And where items of an array of numbers change, every value keeps the same.
abbrev pub NumberWritesKeep : Type 0
NumberWritesKeep = (old new : Heap) (o : ℕ) → AreRenumbered old o new → (x : Value) → IsKept old new x
