-- The shape that says most of a region.
use Rattle.jvm_values.specs.declared.heap.Value.{Value}
use Rattle.jvm_values.specs.declared.heap.Heap.{Heap}
use Rattle.jvm_values.specs.declared.shape.Shape.{Shape}
use Rattle.jvm_values.specs.declared.shape.Shape.TheVariants.{Tree, Dag, Any}
use Rattle.jvm_values.specs.Heaps.{IsTree, IsDag}

-- a shape holds of the region of a value, and none that says more does: a tree is without cycles, and nothing is said
-- where a cycle lies in the region
abbrev pub IsBestShape : Heap → Value → Shape → Type 0
IsBestShape heap value Tree = IsTree heap value
IsBestShape heap value Dag = (IsTree heap value → ⊥) × IsDag heap value
IsBestShape heap value Any = (IsTree heap value → ⊥) × (IsDag heap value → ⊥)
