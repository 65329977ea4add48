-- What an edge of a termination graph says of the machine's states at its two ends.
use Rattle.std.specs.Prelude.{◌≡◌, ℕ, Bool, true, false, ℤ, pos, ◌+ℤ◌, ◌*ℤ◌, ◌==◌, if◌then◌else◌, List, [], ◌∷◌, All, Option, Some, None}
use Rattle.abs_cells.specs.lin_core.Rows.{IsOfKind}
use Rattle.abs_cells.specs.jvm_values.declared.heap.Value.{Value}
use Rattle.abs_cells.specs.jvm_values.declared.heap.Value.TheVariants as values
use Rattle.abs_cells.specs.jvm_values.declared.heap.Heap.{Heap}
use Rattle.abs_cells.specs.jvm_values.declared.shape.Shape.TheVariants.{Tree, Dag, Any}
use Rattle.abs_cells.specs.jvm_values.States.{MachineState}
use Rattle.abs_cells.specs.jvm_values.Terms.{HeapTerm, IsTerm, size_of}
use Rattle.abs_cells.specs.declared.cells.Cell.{Cell}
use Rattle.abs_cells.specs.declared.cells.Cell.TheVariants as cells
use Rattle.abs_cells.specs.AbstractStates.{AbstractState}
use Rattle.abs_cells.specs.Cells.{is_int, HasCell}
use Rattle.abs_cells.specs.Fits.{Meaning}
use Rattle.abs_cells.specs.Patterns.{IsSized}
use Rattle.term_graph.specs.declared.links.Side.{Side}
use Rattle.term_graph.specs.declared.links.Side.TheVariants.{Before, After}
use Rattle.term_graph.specs.declared.links.LinkRow.{LinkRow}
use Rattle.term_graph.specs.declared.links.Link.{Link}

-- ---- rows

-- the number that an int of the machine is; 0 for another value
abbrev pub number_of : Value → ℤ
number_of (values.Int n) = n
number_of values.Null = pos 0
number_of (values.Ref r) = pos 0

-- the map from ids to values of the state on one side of an edge
abbrev pub map_of : Meaning → Meaning → Side → Meaning
map_of before after Before = before
map_of before after After = after

-- the sum of an edge's terms, where each id counts with its int by the map of its side
abbrev pub value_of_terms : Meaning → Meaning → List (Side × ℕ × ℤ) → ℤ
value_of_terms before after [] = pos 0
value_of_terms before after (term ∷ terms) = term.2 *ℤ number_of (map_of before after term.0 term.1) +ℤ value_of_terms before after terms

-- a row of an edge holds of the maps of its two states: the sum of its terms and its constant is at least 0, or is 0, as
-- its kind asks
abbrev pub HoldsBetween : Meaning → Meaning → LinkRow → Type 0
HoldsBetween before after row = IsOfKind row.kind (value_of_terms before after row.terms +ℤ row.constant)

-- ---- sizes

-- the size of a cell's object is a variable: nothing is told of the object but its bound and that no cycle is in its region
abbrev pub is_size_variable : Cell → Bool
is_size_variable (cells.Int interval) = false
is_size_variable cells.Null = false
is_size_variable (cells.Obj class ids) = false
is_size_variable (cells.Nums kind len) = false
is_size_variable (cells.Refs element len shape) = false
is_size_variable (cells.Unk bound nullable Tree) = true
is_size_variable (cells.Unk bound nullable Dag) = true
is_size_variable (cells.Unk bound nullable Any) = false

-- the terms of two values, each in its own heap, have one size, whatever the weights of classes. It says nothing where one
-- of the two has no term; a value without a cycle in its region has one wherever no object of its heap holds a reference
-- past the heap's end, as in typed states
abbrev pub HasSameSize : Heap → Value → Heap → Value → Type 0
HasSameSize heap a heap_after b =
    (weights : List ℕ) (s t : HeapTerm) → IsTerm heap a s → IsTerm heap_after b t → size_of weights s ≡ size_of weights t

-- the id that stands in a child for an id of its parent: the one that it was merged into, or itself
abbrev pub id_after : Option (ℕ × ℕ) → ℕ → ℕ
id_after None id = id
id_after (Some merged) id = if merged.0 == id then merged.1 else id

-- ---- edges

-- an edge of a termination graph leads from a state to its child, as states of the machine at both ends show: an id that is
-- an int's in both has one value, the link's rows hold, and each size that is a variable of the state is the size of the
-- child's id for it, where the child has that id and it has a size
pub record Edge (state : AbstractState) (machine : MachineState) (meaning : Meaning) (link : Link) (child : AbstractState)
    (machine_after : MachineState) (meaning_after : Meaning) : Type 0 where
  pub ints : (id : ℕ) → HasCell is_int state id → HasCell is_int child id → meaning_after id ≡ meaning id
  pub rows : All (HoldsBetween meaning meaning_after) link.rows
  pub sizes : (id : ℕ) → HasCell is_size_variable state id → IsSized child (id_after link.merged id)
      → HasSameSize machine.heap (meaning id) machine_after.heap (meaning_after (id_after link.merged id))

-- an edge of a termination graph leads from a state to the one of which it is an instance: the machine's state is the same
-- at both ends, and each id of the target has the value of its image, as the map lists them
pub record InstanceEdge (map : List (ℕ × ℕ)) (machine : MachineState) (meaning : Meaning) (machine_after : MachineState)
    (meaning_after : Meaning) : Type 0 where
  pub same : machine_after ≡ machine
  pub images : All (λ entry. meaning_after entry.0 ≡ meaning entry.1) map
