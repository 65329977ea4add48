-- Termination graphs as lists of nodes, and nodes that may lack their states.
use Rattle.std.specs.Prelude.{ℕ, List, [], ◌∷◌, zero, suc, Option, slice_get}
use Rattle.std.specs.Option.{option_map}
use Rattle.abs_cells.specs.AbstractStates.{AbstractState}
use Rattle.term_graph.specs.declared.nodes.By.{By}
use Rattle.term_graph.specs.declared.nodes.By.TheVariants.{Expand, Instance, End, Todo}
use Rattle.term_graph.specs.declared.links.Link.{Link}

-- a node of a termination graph: the abstract state that it describes, and how it is left
pub record GraphNode : Type 0 where
  pub state : AbstractState
  pub by : By

-- a child of an abstract state, with what the edge to it says beside the two states
pub record GraphChild : Type 0 where
  pub state : AbstractState
  pub link : Link

-- a node of a termination graph that may lack its state, as certificates have them
pub record GraphPart : Type 0 where
  pub state : Option AbstractState
  pub by : By

-- how the node with a number is left, if there is such a node
abbrev pub by_at : List GraphPart → ℕ → Option By
by_at parts n = option_map (λ part. part.by) (slice_get parts n)

-- the state of the node with a number, if there is such a node; the node may lack it
abbrev pub state_at : List GraphPart → ℕ → Option (Option AbstractState)
state_at parts n = option_map (λ part. part.state) (slice_get parts n)

-- a termination graph in which one node is left in another way
abbrev pub left_by : List GraphNode → ℕ → By → List GraphNode
left_by [] n by = []
left_by (node ∷ nodes) zero by = record { state = node.state; by = by } ∷ nodes
left_by (node ∷ nodes) (suc n) by = node ∷ left_by nodes n by

-- the nodes that a node leads to by the way in which it is left: its children, or the node of which it is an instance
abbrev pub successors : By → List ℕ
successors (Expand children) = children
successors (Instance target map) = target ∷ []
successors End = []
successors Todo = []
