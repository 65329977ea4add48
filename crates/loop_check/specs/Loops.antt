-- Graphs that show that no run ends: good ones without an End node, in which no cycle is of edges that are no steps.
use Rattle.std.specs.Prelude.{◌≡◌, ℕ, suc, ◌<◌, Bool, false, if◌then◌else◌, List, [], ◌∷◌, Option, Some, None, slice_get}
use Rattle.std.specs.Option.{option_map_or}
use Rattle.number_graphs.specs.Graphs.{IsOnCycle, IsLeastOnCycle}
use Rattle.number_graphs.specs.Lists.{Edge}
use Rattle.abs_cells.specs.AbstractStates.{AbstractState}
use Rattle.class_program.specs.Programs.{Program}
use Rattle.frame_types.specs.Tables.{CodeTypes}
use Rattle.term_graph.specs.declared.links.Link.{Link}
use Rattle.term_graph.specs.declared.nodes.By.{By}
use Rattle.term_graph.specs.declared.nodes.By.TheVariants.{Expand, Instance, End, Todo}
use Rattle.term_graph.specs.Graphs.{GraphNode}
use Rattle.graph_check.specs.Good.{GraphOk, IsFault}
use Rattle.loop_check.specs.declared.fault.LoopFault.{LoopFault}
use Rattle.loop_check.specs.declared.fault.LoopFault.TheVariants.{Graph, EndNode, IdleCycle, NotFitting, Memory}

-- ---- edges that are no steps

-- whether the edge to a child is one step of the machine, as its link says
abbrev pub is_step : List Link → ℕ → Bool
is_step links place = option_map_or (λ (link : Link). link.step) (slice_get links place) false

-- of the nodes that a node names, numbered from a place on, those to which no step of the machine leads
abbrev pub idle_among : List Link → ℕ → List ℕ → List ℕ
idle_among links place [] = []
idle_among links place (n ∷ named) = if is_step links place then idle_among links (suc place) named
    else n ∷ idle_among links (suc place) named

-- the nodes to which a node has an edge that is no step of the machine; the edge of an instance is none
abbrev pub idle_row : By → List Link → List ℕ
idle_row (Expand named) links = idle_among links 0 named
idle_row (Instance target entries) links = target ∷ []
idle_row End links = []
idle_row Todo links = []

-- the links of a node; past the last node there are none
abbrev pub links_at : List (List Link) → ℕ → List Link
links_at links n = option_map_or (λ (own : List Link). own) (slice_get links n) []

-- for each node, numbered from one on, the nodes to which it has an edge that is no step
abbrev pub idle_rows_from : List (List Link) → ℕ → List GraphNode → List (List ℕ)
idle_rows_from links n [] = []
idle_rows_from links n (node ∷ nodes) = idle_row node.by (links_at links n) ∷ idle_rows_from links (suc n) nodes

-- for each node of a graph the nodes to which it has an edge that is no step
abbrev pub idle_rows : List GraphNode → List (List Link) → List (List ℕ)
idle_rows nodes links = idle_rows_from links 0 nodes

-- ---- what a graph must not have

-- the node of a number is left as the end of the run
pub record IsEndNode (nodes : List GraphNode) (n : ℕ) : Type 0 where
  pub node : GraphNode
  pub is : slice_get nodes n ≡ Some node
  pub ends : node.by ≡ End

-- a graph has no End node
abbrev pub HasNoEnd : List GraphNode → Type 0
HasNoEnd nodes = (n : ℕ) → IsEndNode nodes n → ⊥

-- a number is the least one of an End node
pub record IsLeastEnd (nodes : List GraphNode) (n : ℕ) : Type 0 where
  pub ends : IsEndNode nodes n
  pub least : (k : ℕ) → k < n → IsEndNode nodes k → ⊥

-- the least End node of a graph, or that there is none
abbrev pub IsFirstEnd : List GraphNode → Option ℕ → Type 0
IsFirstEnd nodes (Some n) = IsLeastEnd nodes n
IsFirstEnd nodes None = HasNoEnd nodes

-- no way of edges that are no steps leads back to where it starts
abbrev pub HasNoIdleCycle : List GraphNode → List (List Link) → Type 0
HasNoIdleCycle nodes links = (n : ℕ) → IsOnCycle (Edge (idle_rows nodes links)) n → ⊥

-- ---- answers

-- a graph shows that no run ends: it is a good one, it has no End node, and no cycle is of edges that are no steps
pub record NeverEnds (p : Program) (typing : ℕ → CodeTypes) (nodes : List GraphNode) (root : AbstractState) : Type 0 where
  pub links : List (List Link)
  pub graph : GraphOk p typing nodes root links
  pub no_end : HasNoEnd nodes
  pub no_idle : HasNoIdleCycle nodes links

-- a graph is good but has an End node: this is the least one
pub record HasEnd (p : Program) (typing : ℕ → CodeTypes) (nodes : List GraphNode) (root : AbstractState) (n : ℕ) : Type 0 where
  pub links : List (List Link)
  pub graph : GraphOk p typing nodes root links
  pub least : IsLeastEnd nodes n

-- a graph is good and has no End node, but a cycle is of edges that are no steps: this is the least node on such a cycle
pub record HasIdleCycle (p : Program) (typing : ℕ → CodeTypes) (nodes : List GraphNode) (root : AbstractState) (n : ℕ) : Type 0 where
  pub links : List (List Link)
  pub graph : GraphOk p typing nodes root links
  pub no_end : HasNoEnd nodes
  pub least : IsLeastOnCycle (Edge (idle_rows nodes links)) n

-- why a graph doesn't show that no run ends: it is no good one, or has an End node, or a cycle without a step, in this order. Want of
-- memory says nothing
abbrev pub Fails : Program → (ℕ → CodeTypes) → List GraphNode → AbstractState → LoopFault → Type 0
Fails p typing nodes root (Graph node what) = IsFault p typing nodes root node what
Fails p typing nodes root (EndNode node) = HasEnd p typing nodes root node
Fails p typing nodes root (IdleCycle node) = HasIdleCycle p typing nodes root node
Fails p typing nodes root NotFitting = ⊥
Fails p typing nodes root Memory = Unit {0}
