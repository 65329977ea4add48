-- Disciplined graphs: trees that grow depth first, the last child first, in which a head is an instance of an earlier node where it can
-- be, and else of a widening (Otto, Brockschmidt, von Essen, Giesl 2010; Brockschmidt, Otto, von Essen, Giesl 2010).
use Rattle.std.specs.Prelude.{◌≡◌, ◌≢◌, ◌⊎◌, ℕ, zero, suc, ◌<◌, ◌≤◌, Bool, true, false, List, length, Some, slice_get}
use Rattle.std.specs.List.{AllZip}
use Rattle.abs_cells.specs.AbstractStates.{AbstractState}
use Rattle.term_graph.specs.declared.nodes.By.{By}
use Rattle.term_graph.specs.declared.nodes.By.TheVariants.{Expand, Instance, End, Todo}
use Rattle.term_graph.specs.Graphs.{GraphNode}
use Rattle.graph_build.specs.Rules.{GrowthRules, HaveSamePositions}

-- ---- the tree

-- the node of a number has this state, and is left in this way
abbrev pub IsNode : List GraphNode → ℕ → AbstractState → By → Type 0
IsNode nodes n state by = slice_get nodes n ≡ Some (record { state = state; by = by })

-- a node that is left in this way leads to the node of this number: as a child of an expanded node, or as that of which the node is an
-- instance
abbrev pub Names : By → ℕ → Type 0
Names (Expand named) n = (place : ℕ) × (slice_get named place ≡ Some n)
Names (Instance target entries) n = target ≡ n
Names End n = ⊥
Names Todo n = ⊥

-- a node comes from another one, which leads to it
pub record ComesFrom (nodes : List GraphNode) (n from : ℕ) : Type 0 where
  pub state : AbstractState
  pub by : By
  pub is : IsNode nodes from state by
  pub names : Names by n

-- the nodes are a tree. Each node but node 0 comes from its parent, whose number is lower: it is a child of an expanded node, or else the
-- widening of which its parent is an instance. A child comes from no other node, and children are numbered in their order
pub record IsTree (nodes : List GraphNode) (parent : ℕ → ℕ) : Type 0 where
  pub comes : (n : ℕ) → 0 < n → n < length nodes → ComesFrom nodes n (parent n)
  pub lower : (n : ℕ) → 0 < n → n < length nodes → parent n < n
  pub children : (n place child : ℕ) (state : AbstractState) (named : List ℕ) → IsNode nodes n state (Expand named)
      → slice_get named place ≡ Some child → (0 < child) × (child < length nodes) × (parent child ≡ n)
  pub in_order : (n i j a b : ℕ) (state : AbstractState) (named : List ℕ) → IsNode nodes n state (Expand named) → i < j
      → slice_get named i ≡ Some a → slice_get named j ≡ Some b → a < b

-- a node is above another one with so many nodes between them: it is the parent, or above the parent
abbrev pub IsAboveBy : (ℕ → ℕ) → ℕ → ℕ → ℕ → Type 0
IsAboveBy parent u zero v = (0 < v) × (parent v ≡ u)
IsAboveBy parent u (suc between) v = (0 < v) × IsAboveBy parent u between (parent v)

-- a node is above another one in the tree
abbrev pub IsAbove : (ℕ → ℕ) → ℕ → ℕ → Type 0
IsAbove parent u v = (between : ℕ) × IsAboveBy parent u between v

-- a node is another one itself, or above it in the tree
abbrev pub IsAtOrAbove : (ℕ → ℕ) → ℕ → ℕ → Type 0
IsAtOrAbove parent u v = (u ≡ v) ⊎ IsAbove parent u v

-- two nodes part at an expanded one: u is at or under a later child than v
pub record IsUnderLater (nodes : List GraphNode) (parent : ℕ → ℕ) (u v : ℕ) : Type 0 where
  pub at : ℕ
  pub state : AbstractState
  pub named : List ℕ
  pub is : IsNode nodes at state (Expand named)
  pub earlier : ℕ
  pub later : ℕ
  pub order : earlier < later
  pub first : ℕ
  pub second : ℕ
  pub is_first : slice_get named earlier ≡ Some first
  pub is_second : slice_get named later ≡ Some second
  pub under_first : IsAtOrAbove parent first v
  pub under_second : IsAtOrAbove parent second u

-- the order in which the tree grows, depth first and the last child first: a node is before those under it, and one at or under a later
-- child of an expanded node is before those at or under an earlier child
abbrev pub IsBefore : List GraphNode → (ℕ → ℕ) → ℕ → ℕ → Type 0
IsBefore nodes parent u v = IsAbove parent u v ⊎ IsUnderLater nodes parent u v

-- ---- what is due at a node

-- whether a node is done by expansion: it has children, or the run ends there
abbrev pub is_expanded : By → Bool
is_expanded (Expand named) = true
is_expanded (Instance target entries) = false
is_expanded End = true
is_expanded Todo = false

-- a node's state is a widening: its parent is an instance of it
pub record IsWidening (nodes : List GraphNode) (parent : ℕ → ℕ) (n : ℕ) : Type 0 where
  pub positive : 0 < n
  pub state : AbstractState
  pub entries : List (ℕ × ℕ)
  pub is : IsNode nodes (parent n) state (Instance n entries)

-- an expanded node that is before another one in the order of growth, and whose state has the positions of that one's state
pub record IsEarlier (nodes : List GraphNode) (parent : ℕ → ℕ) (n : ℕ) (state : AbstractState) (u : ℕ) (other : AbstractState) :
    Type 0 where
  pub by : By
  pub is : IsNode nodes u other by
  pub expanded : is_expanded by ≡ true
  pub before : IsBefore nodes parent u n
  pub positions : HaveSamePositions state other

-- an earlier expanded node with the same positions, of which a node's state is an instance by some map
pub record IsMatch (rules : GrowthRules) (nodes : List GraphNode) (parent : ℕ → ℕ) (n : ℕ) (state : AbstractState) (u : ℕ) : Type 0 where
  pub other : AbstractState
  pub earlier : IsEarlier nodes parent n state u other
  pub entries : List (ℕ × ℕ)
  pub instance : rules.IsInstance state other entries

-- an expanded node above another one, whose state has the positions of that one's state
pub record IsAlikeAbove (nodes : List GraphNode) (parent : ℕ → ℕ) (n : ℕ) (state : AbstractState) (u : ℕ) : Type 0 where
  pub other : AbstractState
  pub earlier : IsEarlier nodes parent n state u other
  pub above : IsAbove parent u n

-- what is due at an open node: that it grows by expansion, that it becomes an instance of the node of a number, or that the state of the
-- node of a number is widened by its own
pub data Due : Type 0 where
  growing : Due
  matching : ℕ → Due
  widening : ℕ → Due

-- a node looks for earlier nodes before it is expanded: its state is a head, and the node is no widening
pub record IsSeeking (rules : GrowthRules) (nodes : List GraphNode) (parent : ℕ → ℕ) (n : ℕ) (state : AbstractState) : Type 0 where
  pub head : rules.is_head state ≡ true
  pub no_widening : IsWidening nodes parent n → ⊥

-- the match of a node that looks for one: of all its matches the one with the least number
pub record IsFirstMatch (rules : GrowthRules) (nodes : List GraphNode) (parent : ℕ → ℕ) (n : ℕ) (state : AbstractState) (u : ℕ) :
    Type 0 where
  pub seeks : IsSeeking rules nodes parent n state
  pub met : IsMatch rules nodes parent n state u
  pub least : (other : ℕ) → IsMatch rules nodes parent n state other → u ≤ other

-- a node has no match: it is an instance of no earlier expanded node with the same positions
abbrev pub HasNoMatch : GrowthRules → List GraphNode → (ℕ → ℕ) → ℕ → AbstractState → Type 0
HasNoMatch rules nodes parent n state = (u : ℕ) → IsMatch rules nodes parent n state u → ⊥

-- a node that looks for a match and has none widens the nearest expanded node above it with the same positions
pub record IsWidenedBy (rules : GrowthRules) (nodes : List GraphNode) (parent : ℕ → ℕ) (n : ℕ) (state : AbstractState) (u : ℕ) :
    Type 0 where
  pub seeks : IsSeeking rules nodes parent n state
  pub unmatched : HasNoMatch rules nodes parent n state
  pub alike : IsAlikeAbove nodes parent n state u
  pub nearest : (other : ℕ) → IsAlikeAbove nodes parent n state other → IsAtOrAbove parent other u

-- a node has no match, and no expanded node above it has the same positions: nothing is left but to expand it
pub record IsAlone (rules : GrowthRules) (nodes : List GraphNode) (parent : ℕ → ℕ) (n : ℕ) (state : AbstractState) : Type 0 where
  pub unmatched : HasNoMatch rules nodes parent n state
  pub none_above : (u : ℕ) → IsAlikeAbove nodes parent n state u → ⊥

-- what is due at a node. It grows where its state is no head, or a widening, or alone; else it becomes an instance of its first match, or
-- of the widening of the nearest node above with the same positions
abbrev pub IsDueAt : GrowthRules → List GraphNode → (ℕ → ℕ) → ℕ → AbstractState → Due → Type 0
IsDueAt rules nodes parent n state growing = (rules.is_head state ≡ false)
    ⊎ (IsWidening nodes parent n ⊎ IsAlone rules nodes parent n state)
IsDueAt rules nodes parent n state (matching u) = IsFirstMatch rules nodes parent n state u
IsDueAt rules nodes parent n state (widening u) = IsWidenedBy rules nodes parent n state u

-- ---- disciplined graphs

-- a node of the graph has this state
pub record IsStateAt (nodes : List GraphNode) (state : AbstractState) (n : ℕ) : Type 0 where
  pub by : By
  pub is : IsNode nodes n state by

-- an expanded node is rightly left: the children of its state are the states of the named nodes, in order
pub record IsGrown (rules : GrowthRules) (nodes : List GraphNode) (state : AbstractState) (named : List ℕ) : Type 0 where
  pub children : List AbstractState
  pub are : rules.HasChildren state children
  pub names : AllZip (IsStateAt nodes) children named

-- a node that is an instance of its first match is rightly left: the map makes it one
pub record IsMatched (rules : GrowthRules) (nodes : List GraphNode) (parent : ℕ → ℕ) (n : ℕ) (state : AbstractState) (target : ℕ)
    (entries : List (ℕ × ℕ)) : Type 0 where
  pub due : IsDueAt rules nodes parent n state (matching target)
  pub other : AbstractState
  pub is : IsStateAt nodes other target
  pub instance : rules.IsInstance state other entries

-- a node that is an instance of a widening is rightly left: its child is the widening of the due state above by its own, and the map makes
-- the node an instance of it
pub record IsWidened (rules : GrowthRules) (nodes : List GraphNode) (parent : ℕ → ℕ) (n : ℕ) (state : AbstractState) (target : ℕ)
    (entries : List (ℕ × ℕ)) : Type 0 where
  pub u : ℕ
  pub due : IsDueAt rules nodes parent n state (widening u)
  pub above : AbstractState
  pub is_above : IsStateAt nodes above u
  pub wide : AbstractState
  pub is_wide : IsStateAt nodes wide target
  pub comes : (0 < target) × (parent target ≡ n)
  pub widened : rules.HasWidening above state wide
  pub instance : rules.IsInstance state wide entries

-- a node is left as is due: it is expanded, or its run ends, or it is an instance of a match or of a widening. Of a node that isn't done
-- yet nothing is asked
abbrev pub IsLeftAsDue : GrowthRules → List GraphNode → (ℕ → ℕ) → ℕ → AbstractState → By → Type 0
IsLeftAsDue rules nodes parent n state (Expand named) = IsDueAt rules nodes parent n state growing × IsGrown rules nodes state named
IsLeftAsDue rules nodes parent n state End = IsDueAt rules nodes parent n state growing × rules.Ends state
IsLeftAsDue rules nodes parent n state (Instance target entries) = IsMatched rules nodes parent n state target entries
    ⊎ IsWidened rules nodes parent n state target entries
IsLeftAsDue rules nodes parent n state Todo = Unit {0}

-- a disciplined graph with the parents of its nodes: a tree whose node 0 has the root's state, and whose numbers rise in the order of
-- growth. Each node is left as is due; one that isn't done yet comes behind all that are
pub record IsDisciplinedBy (rules : GrowthRules) (root : AbstractState) (nodes : List GraphNode) (parent : ℕ → ℕ) : Type 0 where
  pub rooted : IsStateAt nodes root 0
  pub tree : IsTree nodes parent
  pub rise : (u v a b : ℕ) → IsBefore nodes parent u v → 0 < a → a < length nodes → parent a ≡ u → 0 < b → b < length nodes
      → parent b ≡ v → a < b
  pub each : (n : ℕ) (state : AbstractState) (by : By) → IsNode nodes n state by → IsLeftAsDue rules nodes parent n state by
  pub later : (n m : ℕ) (state other : AbstractState) (by : By) → IsNode nodes n state Todo → IsNode nodes m other by → by ≢ Todo
      → IsBefore nodes parent m n

-- a graph is disciplined: it is so by some tree of parents
pub record IsDisciplined (rules : GrowthRules) (root : AbstractState) (nodes : List GraphNode) : Type 0 where
  pub parent : ℕ → ℕ
  pub by : IsDisciplinedBy rules root nodes parent
