-- Good graphs: each node is left as the expansion of its state says, or its state is an instance of another node's (Brockschmidt,
-- Otto, von Essen, Giesl 2010).
use Rattle.std.specs.Prelude.{◌≡◌, ◌≢◌, ◌⊎◌, ℕ, ◌<◌, List, [], length, map, Some, None, slice_get, Result, Ok, Err}
use Rattle.std.specs.List.{AllZip}
use Rattle.abs_cells.specs.AbstractStates.{AbstractState}
use Rattle.abs_reach.specs.Instances.{InstanceOf, IsFirstFault}
use Rattle.abs_match.specs.declared.clauses.MatchFault.{MatchFault}
use Rattle.class_program.specs.class_world.WorldTypes.{types_of}
use Rattle.class_program.specs.Programs.{Program}
use Rattle.frame_types.specs.Tables.{CodeTypes}
use Rattle.term_graph.specs.declared.links.Link.{Link}
use Rattle.term_graph.specs.declared.links.Links.{Links}
use Rattle.term_graph.specs.declared.nodes.By.{By}
use Rattle.term_graph.specs.declared.nodes.By.TheVariants.{Expand, Instance, End, Todo}
use Rattle.term_graph.specs.Graphs.{GraphNode, GraphChild}
use Rattle.one_expansion.specs.abs_expand.declared.fault.ExpandFault.TheVariants as expansion
use Rattle.one_expansion.specs.abs_expand.Answers.{Answers}
use Rattle.one_expansion.specs.abs_expand.BadStates.{IsGoodState, IsBadState}
use Rattle.graph_check.specs.declared.fault.What.{What}
use Rattle.graph_check.specs.declared.fault.What.TheVariants as whats
use Rattle.graph_check.specs.declared.fault.CheckFault.{CheckFault}
use Rattle.graph_check.specs.declared.fault.CheckFault.TheVariants.{At, Memory}

-- ---- what a state becomes

-- the expansion of a state gives these children: states after the machine's next step, each with the link that leads to it
abbrev pub HasChildren : Program → (ℕ → CodeTypes) → AbstractState → List GraphChild → Type 0
HasChildren p typing state children = Answers p typing state (Ok (Some children))

-- the expansion of a state tells that it has no children: the run ends with the machine's next step
abbrev pub HasEnded : Program → (ℕ → CodeTypes) → AbstractState → Type 0
HasEnded p typing state = Answers p typing state (Ok None)

-- one of the children of a state has more ids than an abstract state may have, so that its expansion gives none
abbrev pub HasTooMany : Program → (ℕ → CodeTypes) → AbstractState → Type 0
HasTooMany p typing state = (n : ℕ) × Answers p typing state (Err (expansion.TooManyIds n))

-- ---- good nodes

-- a number is that of a node with a state
pub record IsStateAt (nodes : List GraphNode) (state : AbstractState) (n : ℕ) : Type 0 where
  pub node : GraphNode
  pub is : slice_get nodes n ≡ Some node
  pub state_is : node.state ≡ state

-- a number, which a node names for a child, is that of a node with the child's state
abbrev pub NamesChild : List GraphNode → GraphChild → ℕ → Type 0
NamesChild nodes child n = IsStateAt nodes child.state n

-- a node is left by expansion: its state's children are the states of the named nodes, in order, and its links are those of the children
pub record IsExpanded (p : Program) (typing : ℕ → CodeTypes) (nodes : List GraphNode) (state : AbstractState) (named : List ℕ)
    (links : List Link) : Type 0 where
  pub children : List GraphChild
  pub are : HasChildren p typing state children
  pub names : AllZip (NamesChild nodes) children named
  pub links_are : links ≡ map (λ child. child.link) children

-- a node is left as an instance: its state has an expansion, and it is an instance of the state of another node by a map of ids
pub record IsInstance (p : Program) (typing : ℕ → CodeTypes) (nodes : List GraphNode) (state : AbstractState) (target : ℕ)
    (entries : List (ℕ × ℕ)) : Type 0 where
  pub good : IsGoodState p typing state
  pub node : GraphNode
  pub is : slice_get nodes target ≡ Some node
  pub instance : InstanceOf (types_of p.world).sub state node.state entries

-- a node's state is rightly left in a way, and the node's links are these: one for each child, and none where it is not expanded. A node
-- that is still to be done is no good one
abbrev pub IsLeftBy : Program → (ℕ → CodeTypes) → List GraphNode → AbstractState → By → List Link → Type 0
IsLeftBy p typing nodes state (Expand named) links = IsExpanded p typing nodes state named links
IsLeftBy p typing nodes state (Instance target entries) links = IsInstance p typing nodes state target entries × (links ≡ [])
IsLeftBy p typing nodes state End links = HasEnded p typing state × (links ≡ [])
IsLeftBy p typing nodes state Todo links = ⊥

-- a node of a graph is good: it is left as the expansion of its state says, or its state is an instance of another node's; and these are
-- its links
abbrev pub IsGoodNode : Program → (ℕ → CodeTypes) → List GraphNode → GraphNode → List Link → Type 0
IsGoodNode p typing nodes node links = IsLeftBy p typing nodes node.state node.by links

-- ---- good graphs

-- node 0 has the root's state
abbrev pub IsRooted : List GraphNode → AbstractState → Type 0
IsRooted nodes root = IsStateAt nodes root 0

-- node 0 has the root's state, and every node is good. The links are those of each node
pub record GraphOk (p : Program) (typing : ℕ → CodeTypes) (nodes : List GraphNode) (root : AbstractState)
    (links : List (List Link)) : Type 0 where
  pub rooted : IsRooted nodes root
  pub each : AllZip (IsGoodNode p typing nodes) nodes links

-- ---- faults

-- the first place at which the number that is named for a child isn't that of a node with the child's state
pub record IsFirstOtherChild (nodes : List GraphNode) (children : List GraphChild) (named : List ℕ) (place : ℕ) : Type 0 where
  pub child : GraphChild
  pub is_child : slice_get children place ≡ Some child
  pub number : ℕ
  pub is_named : slice_get named place ≡ Some number
  pub fails : NamesChild nodes child number → ⊥
  pub before : (k : ℕ) (c : GraphChild) (n : ℕ) → k < place → slice_get children k ≡ Some c → slice_get named k ≡ Some n
      → NamesChild nodes c n

-- a node names more nodes, or fewer, than its state has children
pub record IsMiscounted (p : Program) (typing : ℕ → CodeTypes) (state : AbstractState) (named : List ℕ) : Type 0 where
  pub children : List GraphChild
  pub are : HasChildren p typing state children
  pub counts : length children ≢ length named

-- a node names as many nodes as its state has children, but the one at this place, and none before it, is no node with the state of the
-- child
pub record HasOtherChild (p : Program) (typing : ℕ → CodeTypes) (nodes : List GraphNode) (state : AbstractState) (named : List ℕ)
    (place : ℕ) : Type 0 where
  pub children : List GraphChild
  pub are : HasChildren p typing state children
  pub counts : length children ≡ length named
  pub first : IsFirstOtherChild nodes children named place

-- a node's state is no instance of the other node's state by the map that the node has: this is the first clause that fails, at this id
pub record FailsToMatch (p : Program) (nodes : List GraphNode) (state : AbstractState) (target : ℕ) (entries : List (ℕ × ℕ))
    (fault : MatchFault) : Type 0 where
  pub node : GraphNode
  pub is : slice_get nodes target ≡ Some node
  pub first : IsFirstFault (types_of p.world).sub state node.state entries fault.clause fault.id

-- what is wrong with a node whose state has an expansion, by how it is left
abbrev pub FailsBy : Program → (ℕ → CodeTypes) → List GraphNode → AbstractState → By → What → Type 0
FailsBy p typing nodes state (Expand named) whats.TooManyIds = HasTooMany p typing state
FailsBy p typing nodes state (Expand named) whats.ChildCount = HasEnded p typing state ⊎ IsMiscounted p typing state named
FailsBy p typing nodes state (Expand named) (whats.Child place) = HasOtherChild p typing nodes state named place
FailsBy p typing nodes state (Instance target entries) whats.BadTarget = slice_get nodes target ≡ None
FailsBy p typing nodes state (Instance target entries) (whats.Match fault) = FailsToMatch p nodes state target entries fault
FailsBy p typing nodes state End whats.NotEnd = HasEnded p typing state → ⊥
FailsBy p typing nodes state Todo whats.NotEnd = Unit {0}
FailsBy p typing nodes state _ _ = ⊥

-- what is wrong with a node; a state without an expansion comes first
abbrev pub FailsAs : Program → (ℕ → CodeTypes) → List GraphNode → GraphNode → What → Type 0
FailsAs p typing nodes node (whats.BadState clause) = IsBadState p typing node.state clause
FailsAs p typing nodes node what = IsGoodState p typing node.state × FailsBy p typing nodes node.state node.by what

-- the first node of a graph that isn't good, with what is wrong with it: all nodes before it are good
pub record IsFirstBadNode (p : Program) (typing : ℕ → CodeTypes) (nodes : List GraphNode) (number : ℕ) (what : What) : Type 0 where
  pub node : GraphNode
  pub is : slice_get nodes number ≡ Some node
  pub fails : FailsAs p typing nodes node what
  pub before : (k : ℕ) (earlier : GraphNode) → k < number → slice_get nodes k ≡ Some earlier
      → (links : List Link) × IsGoodNode p typing nodes earlier links

-- the first fault of a graph, of a node and of what is wrong with it. That node 0 has the root's state is looked at before all nodes
abbrev pub IsFault : Program → (ℕ → CodeTypes) → List GraphNode → AbstractState → ℕ → What → Type 0
IsFault p typing nodes root number whats.Root = (number ≡ 0) × (IsRooted nodes root → ⊥)
IsFault p typing nodes root number what = IsRooted nodes root × IsFirstBadNode p typing nodes number what

-- a check of a graph tells this: the links of a good graph, or its first fault. Want of memory says nothing
abbrev pub Tells : Program → (ℕ → CodeTypes) → List GraphNode → AbstractState → Result Links CheckFault → Type 0
Tells p typing nodes root (Ok links) = GraphOk p typing nodes root links.nodes
Tells p typing nodes root (Err (At number what)) = IsFault p typing nodes root number what
Tells p typing nodes root (Err Memory) = Unit {0}
