-- Graphs whose nodes may lack their states, filled: such a node has the state of the child where it is first named.
use Rattle.std.specs.Prelude.{◌≡◌, ◌⊎◌, ℕ, ◌<◌, List, map, length, Option, Some, None, slice_get}
use Rattle.abs_cells.specs.AbstractStates.{AbstractState}
use Rattle.term_graph.specs.declared.nodes.By.{By}
use Rattle.term_graph.specs.declared.nodes.By.TheVariants.{Expand}
use Rattle.term_graph.specs.Graphs.{GraphNode, GraphChild, GraphPart}

-- what states become: which list of children a state has, and that it has one list of them at most
pub record ChildRules : Type 1 where
  pub HasChildren : AbstractState → List GraphChild → Type 0
  pub one : (state : AbstractState) (children others : List GraphChild) → HasChildren state children → HasChildren state others
      → children ≡ others

-- ---- where a node is first named

-- the ways in which the nodes of a graph are left, part by part
abbrev pub ways_of : List GraphPart → List By
ways_of parts = map (λ part. part.by) parts

-- an expanded node names a number at a place
pub record Names (ways : List By) (namer place number : ℕ) : Type 0 where
  pub named : List ℕ
  pub is : slice_get ways namer ≡ Some (Expand named)
  pub at : slice_get named place ≡ Some number

-- a node is first named there: by no node before that one, and at no place before this one
pub record IsFirstNamed (ways : List By) (namer place number : ℕ) : Type 0 where
  pub names : Names ways namer place number
  pub no_earlier_node : (other at : ℕ) → other < namer → Names ways other at number → ⊥
  pub no_earlier_place : (at : ℕ) → at < place → Names ways namer at number → ⊥

-- a node is named by an expanded node of a lower number
pub record IsNamedBefore (ways : List By) (number : ℕ) : Type 0 where
  pub namer : ℕ
  pub place : ℕ
  pub earlier : namer < number
  pub names : Names ways namer place number

-- parts can be filled: each node without a state is named by an expanded node of a lower number
abbrev pub CanBeFilled : List GraphPart → Type 0
CanBeFilled parts = (number : ℕ) (part : GraphPart) → slice_get parts number ≡ Some part → part.state ≡ None
    → IsNamedBefore (ways_of parts) number

-- ---- the state that it has

-- a state is the child at a place of another one's children
pub record IsChildAt (rules : ChildRules) (from : AbstractState) (place : ℕ) (state : AbstractState) : Type 0 where
  pub children : List GraphChild
  pub are : rules.HasChildren from children
  pub child : GraphChild
  pub at : slice_get children place ≡ Some child
  pub state_is : state ≡ child.state

-- a state has no child at a place
abbrev pub HasNoChildAt : ChildRules → AbstractState → ℕ → Type 0
HasNoChildAt rules from place = (children : List GraphChild) → rules.HasChildren from children → slice_get children place ≡ None

-- the state of a node that is named at a place of a node: the child that this one's state has there; or, where it has none, the state of
-- the first node, which stands for it
abbrev pub Takes : ChildRules → AbstractState → AbstractState → ℕ → AbstractState → Type 0
Takes rules from first place state = IsChildAt rules from place state ⊎ (HasNoChildAt rules from place × (state ≡ first))

-- the state of a node whose part has none: that of the child where the node is first named, by a node of a lower number
pub record IsTakenState (rules : ChildRules) (ways : List By) (nodes : List GraphNode) (number : ℕ) (state : AbstractState) : Type 0 where
  pub namer : ℕ
  pub place : ℕ
  pub named : IsFirstNamed ways namer place number
  pub earlier : namer < number
  pub node : GraphNode
  pub is : slice_get nodes namer ≡ Some node
  pub first : GraphNode
  pub is_first : slice_get nodes 0 ≡ Some first
  pub takes : Takes rules node.state first.state place state

-- the state of a node: the one that its part gives, or, where the part gives none, the one that it takes from the node that first names it
abbrev pub HasStateOf : ChildRules → List By → List GraphNode → ℕ → Option AbstractState → AbstractState → Type 0
HasStateOf rules ways nodes number (Some given) state = state ≡ given
HasStateOf rules ways nodes number None state = IsTakenState rules ways nodes number state

-- ---- the filled graph

-- a node of the filled graph: it is left as its part says, and has the part's state, or the one that it takes
pub record IsNodeOf (rules : ChildRules) (parts : List GraphPart) (nodes : List GraphNode) (number : ℕ) (node : GraphNode) : Type 0 where
  pub part : GraphPart
  pub is : slice_get parts number ≡ Some part
  pub by : node.by ≡ part.by
  pub state : HasStateOf rules (ways_of parts) nodes number part.state node.state

-- the first nodes of the filled graph, so many of them
pub record AreFirstFilled (rules : ChildRules) (parts : List GraphPart) (count : ℕ) (nodes : List GraphNode) : Type 0 where
  pub long : length nodes ≡ count
  pub each : (number : ℕ) (node : GraphNode) → slice_get nodes number ≡ Some node → IsNodeOf rules parts nodes number node

-- the filled graph of parts: as many nodes as there are parts, each with its own state or the one that it takes
abbrev pub IsFilled : ChildRules → List GraphPart → List GraphNode → Type 0
IsFilled rules parts nodes = AreFirstFilled rules parts (length parts) nodes

-- the first nodes of the filled graph, as something that a source of nodes may carry: there is one list of them at most
abbrev pub Filling : ChildRules → List GraphPart → ℕ → Type 0
Filling rules parts count = (nodes : List GraphNode) × ∥ AreFirstFilled rules parts count nodes ∥₁
