-- The state that a node takes of the children of another one.
use Rattle.std.specs.Prelude.{◌≡◌, ◌⊎◌, ℕ, List, [], Some, None, slice_get}
use Rattle.abs_cells.specs.AbstractStates.{AbstractState}
use Rattle.term_graph.specs.Graphs.{GraphNode, GraphChild, GraphPart}
use Rattle.filled_graphs.specs.Filling.{ChildRules}
use Rattle.filled_graphs.specs.filled_nodes.Children.{HasNone}

-- the children of a state, or an empty list where it has none
abbrev pub AreChildren : ChildRules → AbstractState → List GraphChild → Type 0
AreChildren rules state children = rules.HasChildren state children ⊎ ((children ≡ []) × HasNone rules state)

-- the children of a node's state, or an empty list where it has none
pub record AreChildrenOf (rules : ChildRules) (nodes : List GraphNode) (number : ℕ) (children : List GraphChild) : Type 0 where
  pub node : GraphNode
  pub is : slice_get nodes number ≡ Some node
  pub are : AreChildren rules node.state children

-- a state is that of the child at a place
pub record IsChildsState (children : List GraphChild) (place : ℕ) (state : AbstractState) : Type 0 where
  pub child : GraphChild
  pub at : slice_get children place ≡ Some child
  pub is : state ≡ child.state

-- no child is at a place, and a state is that of the first part, which stands for it
pub record IsFirstState (parts : List GraphPart) (children : List GraphChild) (place : ℕ) (state : AbstractState) : Type 0 where
  pub none : slice_get children place ≡ None
  pub part : GraphPart
  pub is_first : slice_get parts 0 ≡ Some part
  pub is : part.state ≡ Some state

-- the state for a place of children: that of the child there, or where there is none that of the first part
abbrev pub IsChildOrFirst : List GraphPart → List GraphChild → ℕ → AbstractState → Type 0
IsChildOrFirst parts children place state = IsChildsState children place state ⊎ IsFirstState parts children place state
