-- A graph that grows, with what is kept beside it, and the steps of its growth.
use Rattle.std.specs.Prelude.{◌≡◌, ℕ, ◌+◌, ◌-◌, ◌<◌, ◌≤◌, Bool, true, false, List, [], ◌∷◌, ◌++◌, length, Option, Some, None}
use Rattle.std.specs.Prelude.{Result, Ok, Err, slice_get, get_or}
use Rattle.std.specs.List.{AllByRecursion}
use Rattle.list_views.specs.Lists.{Has, numbers_from}
use Rattle.abs_cells.specs.AbstractStates.{AbstractState}
use Rattle.term_graph.specs.declared.nodes.By.{By}
use Rattle.term_graph.specs.declared.nodes.By.TheVariants.{Expand, Instance, End, Todo}
use Rattle.term_graph.specs.Graphs.{GraphNode, left_by}
use Rattle.term_graph.specs.Limits.{most_nodes}
use Rattle.graph_build.specs.Rules.{GrowthRules, HaveSamePositions}
use Rattle.graph_build.specs.Disciplined.{IsNode, IsStateAt, IsBefore, IsAbove, IsAtOrAbove, IsDueAt, IsDisciplinedBy, is_expanded}
use Rattle.graph_build.specs.Disciplined.Due.{growing, matching, widening}
use Rattle.graph_build.specs.Answers.{PassesLimit, HasLarge}
use Rattle.graph_build.specs.declared.due.Next.{Next}
use Rattle.graph_build.specs.declared.due.Next.TheVariants as next
use Rattle.graph_build.specs.declared.growth.Growing.{Growing}
use Rattle.graph_build.specs.declared.growth.Plan.{Plan}
use Rattle.graph_build.specs.declared.growth.Plan.TheVariants as plan
use Rattle.graph_build.specs.declared.growth.GrowthLimit.{GrowthLimit}
use Rattle.graph_build.specs.declared.growth.GrowthLimit.TheVariants as limits

-- ---- what is kept

-- the number of a node's parent in a list of all parents; for node 0, which has none, it is 0
abbrev pub parent_in : List ℕ → ℕ → ℕ
parent_in parents n = get_or parents n 0

-- whether a node is left as an instance of another one
abbrev pub is_instance : By → Bool
is_instance (Expand named) = false
is_instance (Instance target entries) = true
is_instance End = false
is_instance Todo = false

-- whether there is a node, and it is left as an instance of another one
abbrev pub is_instance_of : Option GraphNode → Bool
is_instance_of None = false
is_instance_of (Some node) = is_instance node.by

-- whether the node of a number is there, and is left as an instance of another one
abbrev pub is_instance_at : List GraphNode → ℕ → Bool
is_instance_at nodes n = is_instance_of (slice_get nodes n)

-- a growing graph: its nodes, the number of each node's parent, and the numbers of the open nodes, the next one first
pub record Work : Type 0 where
  pub nodes : List GraphNode
  pub parents : List ℕ
  pub waiting : List ℕ

-- a node of this state that is still to be done
abbrev pub todo : AbstractState → GraphNode
todo state = record { state = state; by = Todo }

-- the growing graph of a root's state alone, which is still to be done
abbrev pub of_root : AbstractState → Work
of_root state = record { nodes = todo state ∷ []; parents = 0 ∷ []; waiting = 0 ∷ [] }

-- a growing graph with one more open node under a parent, which comes next
abbrev pub with_one : Work → AbstractState → ℕ → Work
with_one work state parent = record {
  nodes = work.nodes ++ todo state ∷ [];
  parents = work.parents ++ parent ∷ [];
  waiting = length
      work.nodes ∷ work.waiting;
}

-- a growing graph with one more open node under a parent for each state, of which the last one comes next
abbrev pub with_all : Work → List AbstractState → ℕ → Work
with_all work [] parent = work
with_all work (state ∷ states) parent = with_all (with_one work state parent) states parent

-- a list of waiting nodes without its first one
abbrev pub tail_of : List ℕ → List ℕ
tail_of [] = []
tail_of (n ∷ ns) = ns

-- a growing graph whose next open node waits no more
abbrev pub without : Work → Work
without work = record { nodes = work.nodes; parents = work.parents; waiting = tail_of work.waiting }

-- a growing graph whose node of a number is left in this way
abbrev pub left : Work → ℕ → By → Work
left work n by = record { nodes = left_by work.nodes n by; parents = work.parents; waiting = work.waiting }

-- ---- one growth

-- a growing graph after one growth at its next open node: the run ends there, or it gets children, or it becomes an instance of an earlier
-- node, or of a widening that is a new node
abbrev pub grown : {P : Type 0} → Work → ℕ → Plan P → Work
grown work n plan.End = left (without work) n End
grown work n (plan.Children states) = left (with_all (without work) states n) n (Expand (numbers_from (length work.nodes) (length states)))
grown work n (plan.Join target entries) = left (without work) n (Instance target entries)
grown work n (plan.Open wide entries) = left (with_one (without work) wide n) n (Instance (length work.nodes) entries)

-- ---- what is found

-- a node is an expanded one, and its state has the positions of a state
abbrev pub IsNodeAlike : AbstractState → GraphNode → Type 0
IsNodeAlike state node = (is_expanded node.by ≡ true) × HaveSamePositions state node.state

-- a map by which a state is an instance of an expanded node with the same positions, or that there is none
abbrev pub NodeMatches : GrowthRules → AbstractState → GraphNode → Option (List (ℕ × ℕ)) → Type 0
NodeMatches rules state node (Some entries) = IsNodeAlike state node × rules.IsInstance state node.state entries
NodeMatches rules state node None = IsNodeAlike state node → (entries : List (ℕ × ℕ)) → rules.IsInstance state node.state entries → ⊥

-- the node of a number doesn't stand for a state: it isn't expanded, or has other positions, or the state is no instance of it
abbrev pub IsPassed : GrowthRules → List GraphNode → AbstractState → ℕ → Type 0
IsPassed rules nodes state u = (other : AbstractState) (by : By) → IsNode nodes u other by → is_expanded by ≡ true
    → HaveSamePositions state other → (entries : List (ℕ × ℕ)) → rules.IsInstance state other entries → ⊥

-- of all expanded nodes with the positions of a state, this is the first one of which the state is an instance
pub record IsFirstFound (rules : GrowthRules) (nodes : List GraphNode) (state : AbstractState) (u : ℕ) (entries : List (ℕ × ℕ)) :
    Type 0 where
  pub other : AbstractState
  pub by : By
  pub is : IsNode nodes u other by
  pub expanded : is_expanded by ≡ true
  pub positions : HaveSamePositions state other
  pub instance : rules.IsInstance state other entries
  pub first : (v : ℕ) → v < u → IsPassed rules nodes state v

-- the first expanded node of which a state with the same positions is an instance, with the map, or that there is none
abbrev pub IsFound : GrowthRules → List GraphNode → AbstractState → Option (ℕ × List (ℕ × ℕ)) → Type 0
IsFound rules nodes state (Some found) = IsFirstFound rules nodes state found.0 found.1
IsFound rules nodes state None = (u : ℕ) → IsPassed rules nodes state u

-- an expanded node above another one has the positions of a state
pub record IsAlike (nodes : List GraphNode) (parent : ℕ → ℕ) (n : ℕ) (state : AbstractState) (u : ℕ) : Type 0 where
  pub other : AbstractState
  pub by : By
  pub is : IsNode nodes u other by
  pub expanded : is_expanded by ≡ true
  pub positions : HaveSamePositions state other
  pub above : IsAbove parent u n

-- of the expanded nodes above another one that have the positions of a state, this is the nearest one
pub record IsNearest (nodes : List GraphNode) (parent : ℕ → ℕ) (n : ℕ) (state : AbstractState) (u : ℕ) : Type 0 where
  pub alike : IsAlike nodes parent n state u
  pub nearest : (other : ℕ) → IsAlike nodes parent n state other → IsAtOrAbove parent other u

-- the nearest expanded node above another one that has the positions of a state, or that there is none
abbrev pub NearestOr : List GraphNode → (ℕ → ℕ) → ℕ → AbstractState → Option ℕ → Type 0
NearestOr nodes parent n state (Some u) = IsNearest nodes parent n state u
NearestOr nodes parent n state None = (u : ℕ) → IsAlike nodes parent n state u → ⊥

-- ---- what holds between growths

-- the numbers of a list stand in the order of growth: each one is before all later ones
abbrev pub AreInOrder : List GraphNode → (ℕ → ℕ) → List ℕ → Type 0
AreInOrder nodes parent [] = Unit {0}
AreInOrder nodes parent (n ∷ ns) = ((m : ℕ) → Has ns m → IsBefore nodes parent n m) × AreInOrder nodes parent ns

-- what holds of a graph between growths: it is disciplined, its states are good, and its open nodes are those that wait, in the order of
-- growth
pub record IsSound (rules : GrowthRules) (good : AbstractState → Type 0) (root : AbstractState) (work : Work) : Type 0 where
  pub disciplined : IsDisciplinedBy rules root work.nodes (parent_in work.parents)
  pub parents : length work.parents ≡ length work.nodes
  pub are_good : (n : ℕ) (state : AbstractState) (by : By) → IsNode work.nodes n state by → good state
  pub waiting : (n : ℕ) → Has work.waiting n → (state : AbstractState) × IsNode work.nodes n state Todo
  pub all : (n : ℕ) (state : AbstractState) → IsNode work.nodes n state Todo → Has work.waiting n
  pub order : AreInOrder work.nodes (parent_in work.parents) work.waiting

-- the next open node of a graph that is sound
pub record IsNextOpen (rules : GrowthRules) (good : AbstractState → Type 0) (nodes : List GraphNode) (parents : List ℕ) (n : ℕ)
    (state : AbstractState) : Type 0 where
  pub root : AbstractState
  pub disciplined : IsDisciplinedBy rules root nodes (parent_in parents)
  pub parents_are : length parents ≡ length nodes
  pub are_good : (m : ℕ) (other : AbstractState) (by : By) → IsNode nodes m other by → good other
  pub is : IsNode nodes n state Todo

-- what is due at the next open node, and of which node it is an instance by which map where it is to be one
abbrev pub NextOr : {E : Type 0} → GrowthRules → List GraphNode → (ℕ → ℕ) → ℕ → AbstractState → Result Next E → Type 0
NextOr rules nodes parent n state (Ok next.Growing) = IsDueAt rules nodes parent n state growing
NextOr rules nodes parent n state (Ok (next.Matching u entries)) = IsDueAt rules nodes parent n state (matching u)
    × IsFirstFound rules nodes state u entries
NextOr rules nodes parent n state (Ok (next.Widening u)) = IsDueAt rules nodes parent n state (widening u)
NextOr rules nodes parent n state (Err fault) = Unit {0}

-- ---- what may be done at the next open node

-- the next open node may become an instance of an earlier one: that is due, and the map makes its state one
pub record IsMatchedTo (rules : GrowthRules) (work : Work) (n : ℕ) (state : AbstractState) (u : ℕ) (entries : List (ℕ × ℕ)) : Type 0 where
  pub due : IsDueAt rules work.nodes (parent_in work.parents) n state (matching u)
  pub other : AbstractState
  pub is : IsStateAt work.nodes other u
  pub instance : rules.IsInstance state other entries

-- the next open node may become an instance of a new node: a widening is due, this is a good one, and the map makes the node's state an
-- instance of it
pub record IsWidenedTo (rules : GrowthRules) (good : AbstractState → Type 0) (work : Work) (n : ℕ) (state wide : AbstractState)
    (entries : List (ℕ × ℕ)) : Type 0 where
  pub u : ℕ
  pub due : IsDueAt rules work.nodes (parent_in work.parents) n state (widening u)
  pub above : AbstractState
  pub is_above : IsStateAt work.nodes above u
  pub widened : rules.HasWidening above state wide
  pub good_wide : good wide
  pub instance : rules.IsInstance state wide entries

-- a graph may grow in this way at its next open node: it is what is due, and the graph then has no more nodes than its limit
abbrev pub MayGrow : {P : Type 0} → GrowthRules → (AbstractState → Type 0) → Work → ℕ → AbstractState → ℕ → Plan P → Type 0
MayGrow rules good work n state limit plan.End = IsDueAt rules work.nodes (parent_in work.parents) n state growing × rules.Ends state
MayGrow rules good work n state limit (plan.Children states) = IsDueAt rules work.nodes (parent_in work.parents) n state growing
    × ((rules.HasChildren state states × AllByRecursion good states) × (length work.nodes + length states ≤ limit))
MayGrow rules good work n state limit (plan.Join u entries) = IsMatchedTo rules work n state u entries
MayGrow rules good work n state limit (plan.Open wide entries) = IsWidenedTo rules good work n state wide entries
    × (length work.nodes + 1 ≤ limit)

-- how a graph may grow at its next open node, or why it may not: it would pass its limit of nodes, or a state would have too many ids
abbrev pub PlanOr : {P : Type 0} → GrowthRules → (AbstractState → Type 0) → Work → ℕ → AbstractState → ℕ
    → Result (Plan P) GrowthLimit → Type 0
PlanOr rules good work n state limit (Ok growth) = MayGrow rules good work n state limit growth
PlanOr rules good work n state limit (Err limits.Nodes) = PassesLimit rules work.nodes (parent_in work.parents) n state limit
PlanOr rules good work n state limit (Err limits.Ids) = HasLarge rules work.nodes (parent_in work.parents) n state
PlanOr rules good work n state limit (Err limits.Memory) = Unit {0}

-- a growth leaves a graph with no more nodes than a graph may have
abbrev pub HasRoom : {P : Type 0} → Work → Plan P → Type 0
HasRoom work plan.End = Unit {0}
HasRoom work (plan.Children states) = length work.nodes + length states ≤ most_nodes
HasRoom work (plan.Join u entries) = Unit {0}
HasRoom work (plan.Open wide entries) = length work.nodes + 1 ≤ most_nodes

-- a growing graph as the definitions see it: its nodes, the parents, and those that wait
abbrev pub seen : {P : Type 0} → Growing P → Work
seen work = record { nodes = work.graph; parents = work.parents; waiting = work.waiting.0 }

-- how many growths are left at most: each one takes a waiting node, and adds as many to the nodes as to those that wait
abbrev pub work_left : ℕ → Work → ℕ
work_left limit work = (limit + length work.waiting) - length work.nodes
