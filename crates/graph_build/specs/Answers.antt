-- What building a graph answers.
use Rattle.std.specs.Prelude.{◌≢◌, ◌⊎◌, ℕ, ◌+◌, ◌<◌, ◌≤◌, List, length, Result, Ok, Err}
use Rattle.abs_cells.specs.AbstractStates.{AbstractState}
use Rattle.term_graph.specs.declared.nodes.By.TheVariants.{Todo}
use Rattle.term_graph.specs.Graphs.{GraphNode}
use Rattle.graph_build.specs.Rules.{GrowthRules}
use Rattle.graph_build.specs.Disciplined.{IsNode, IsBefore, IsDueAt, IsStateAt, IsDisciplined, IsDisciplinedBy}
use Rattle.graph_build.specs.Disciplined.Due.{growing, widening}
use Rattle.graph_build.specs.declared.building.Built.{Built}
use Rattle.graph_build.specs.declared.building.Built.TheVariants as built
use Rattle.graph_build.specs.declared.building.BuildFault.{BuildFault}

-- a graph is closed: none of its nodes is still to be done
abbrev pub IsClosed : List GraphNode → Type 0
IsClosed nodes = (n : ℕ) (state : AbstractState) → IsNode nodes n state Todo → ⊥

-- the first node that is still to be done, in the order of growth
pub record IsFirstOpen (nodes : List GraphNode) (parent : ℕ → ℕ) (n : ℕ) (state : AbstractState) : Type 0 where
  pub is : IsNode nodes n state Todo
  pub first : (m : ℕ) (other : AbstractState) → IsNode nodes m other Todo → m ≢ n → IsBefore nodes parent n m

-- the children of a state would give the graph more nodes than its limit
pub record HasManyChildren (rules : GrowthRules) (nodes : List GraphNode) (state : AbstractState) (limit : ℕ) : Type 0 where
  pub children : List AbstractState
  pub are : rules.HasChildren state children
  pub many : limit < length nodes + length children

-- at a node a widening is due of the state of a node above, and something holds of that state
pub record HasWide (rules : GrowthRules) (nodes : List GraphNode) (parent : ℕ → ℕ) (n : ℕ) (state : AbstractState)
    (Is : AbstractState → Type 0) : Type 0 where
  pub u : ℕ
  pub due : IsDueAt rules nodes parent n state (widening u)
  pub above : AbstractState
  pub is_above : IsStateAt nodes above u
  pub is : Is above

-- the widening of two states exists
abbrev pub CanBeWidened : GrowthRules → AbstractState → AbstractState → Type 0
CanBeWidened rules state above = (wide : AbstractState) × rules.HasWidening above state wide

-- the growth that is due at a node would give the graph more nodes than its limit: by the children of its state, or by a widening
abbrev pub PassesLimit : GrowthRules → List GraphNode → (ℕ → ℕ) → ℕ → AbstractState → ℕ → Type 0
PassesLimit rules nodes parent n state limit =
    (IsDueAt rules nodes parent n state growing × HasManyChildren rules nodes state limit)
    ⊎ (HasWide rules nodes parent n state (CanBeWidened rules state) × (limit < length nodes + 1))

-- the growth that is due at a node has a state with too many ids: a child, or a widening
abbrev pub HasLarge : GrowthRules → List GraphNode → (ℕ → ℕ) → ℕ → AbstractState → Type 0
HasLarge rules nodes parent n state =
    (IsDueAt rules nodes parent n state growing × rules.HasLargeChild state)
    ⊎ HasWide rules nodes parent n state (λ above. rules.HasLargeWidening above state)

-- the growth of a graph has stopped: the graph is disciplined, and what is due at its first open node can't be done, for this reason
pub record IsStopped (rules : GrowthRules) (root : AbstractState) (nodes : List GraphNode) (Why : (ℕ → ℕ) → ℕ → AbstractState
    → Type 0) : Type 0 where
  pub parent : ℕ → ℕ
  pub by : IsDisciplinedBy rules root nodes parent
  pub n : ℕ
  pub state : AbstractState
  pub first : IsFirstOpen nodes parent n state
  pub why : Why parent n state

-- what building a graph answers, with no more nodes than the limit: a disciplined graph with no open node; one whose next growth would pass
-- the limit; or one whose next growth has a state with too many ids. Want of memory says nothing
abbrev pub BuildsOr : {P : Type 0} → GrowthRules → AbstractState → ℕ → Result (Built P) BuildFault → Type 0
BuildsOr rules root limit (Ok (built.Closed nodes)) = (IsDisciplined rules root nodes × IsClosed nodes) × (length nodes ≤ limit)
BuildsOr rules root limit (Ok (built.Nodes nodes)) = IsStopped rules root nodes
    (λ parent n state. PassesLimit rules nodes parent n state limit) × (length nodes ≤ limit)
BuildsOr rules root limit (Ok (built.Ids nodes)) = IsStopped rules root nodes
    (λ parent n state. HasLarge rules nodes parent n state) × (length nodes ≤ limit)
BuildsOr rules root limit (Err fault) = Unit {0}
