-- States that are held in slots, one for each node: empty where none is held.
use Rattle.std.specs.Prelude.{◌≡◌, ℕ, List, length, Option, Some, slice_get}
use Rattle.abs_cells.specs.AbstractStates.{AbstractState}
use Rattle.term_graph.specs.Graphs.{GraphNode, GraphPart}
use Rattle.filled_graphs.specs.Filling.{ChildRules, HasStateOf, ways_of}

-- each state that a slot holds is that of its node in the filled graph; where the node isn't known yet, it is the one that the node takes
abbrev pub AreHeld : ChildRules → List GraphPart → List GraphNode → List (Option AbstractState) → Type 0
AreHeld rules parts nodes slots = (number : ℕ) (part : GraphPart) (state : AbstractState) → slice_get parts number ≡ Some part
    → slice_get slots number ≡ Some (Some state) → ∥ HasStateOf rules (ways_of parts) nodes number part.state state ∥₁

-- there is a slot for each part, and what the slots hold are states of their nodes
pub record AreKept (rules : ChildRules) (parts : List GraphPart) (nodes : List GraphNode) (slots : List (Option AbstractState)) :
    Type 0 where
  pub long : length slots ≡ length parts
  pub held : AreHeld rules parts nodes slots

-- all nodes of the filled graph are known, and each state that a slot holds is that of its node
pub record IsWhole (rules : ChildRules) (parts : List GraphPart) (known : ℕ) (nodes : List GraphNode)
    (slots : List (Option AbstractState)) : Type 0 where
  pub all : known ≡ length parts
  pub kept : AreKept rules parts nodes slots
