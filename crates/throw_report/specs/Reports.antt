-- How the runs of a termination graph can end: by the End nodes that its edges reach.
use Rattle.std.specs.Prelude.{◌≡◌, ◌⊎◌, ◌↔◌, ℕ, List, map, IsTrue, Some, None, slice_get}
use Rattle.list_views.specs.Lists.{Has}
use Rattle.number_graphs.specs.Graphs.{Leads}
use Rattle.number_graphs.specs.Lists.{Edge}
use Rattle.jvm_heaps.specs.Regions.{RiseFrom}
use Rattle.abs_cells.specs.declared.cells.Cell.TheVariants.{Obj}
use Rattle.abs_cells.specs.AbstractStates.{AbstractState}
use Rattle.abs_cells.specs.Cells.{cell_at}
use Rattle.term_graph.specs.declared.nodes.By.TheVariants.{End}
use Rattle.term_graph.specs.Graphs.{GraphNode, successors}
use Rattle.throw_report.specs.declared.ways.Report.{Report}

-- ---- nodes

-- the nodes that each node of a graph leads to
abbrev pub rows_of : List GraphNode → List (List ℕ)
rows_of nodes = map (λ (node : GraphNode). successors node.by) nodes

-- edges lead from node 0 to a node; node 0 is reached without one
abbrev pub IsReached : List GraphNode → ℕ → Type 0
IsReached nodes n = (n ≡ 0) ⊎ Leads (Edge (rows_of nodes)) 0 n

-- a state with which runs end: it is that of an End node whose number is among some
pub record IsEndState (nodes : List GraphNode) (among : ℕ → Type 0) (state : AbstractState) : Type 0 where
  pub number : ℕ
  pub node : GraphNode
  pub is : slice_get nodes number ≡ Some node
  pub counts : among number
  pub ends : node.by ≡ End
  pub state_is : node.state ≡ state

-- ---- ways to end

-- runs return at an End node whose number is among some: its state is in normal mode
pub record Returns (nodes : List GraphNode) (among : ℕ → Type 0) : Type 0 where
  pub state : AbstractState
  pub ends : IsEndState nodes among state
  pub normal : state.throwing ≡ None

-- runs throw an object of a class at an End node whose number is among some: the thrown id has an `Obj` of the class
pub record Throws (nodes : List GraphNode) (among : ℕ → Type 0) (class : ℕ) : Type 0 where
  pub state : AbstractState
  pub ends : IsEndState nodes among state
  pub id : ℕ
  pub thrown : state.throwing ≡ Some id
  pub fields : List ℕ
  pub cell : cell_at state id ≡ Some (Obj class fields)

-- ---- reports

-- a report has exactly the ways in which runs end at some of the nodes: whether they return, and the classes of which they throw an object,
-- which rise
pub record Reports (nodes : List GraphNode) (among : ℕ → Type 0) (report : Report) : Type 0 where
  pub returns : IsTrue report.returns ↔ Returns nodes among
  pub throws : (class : ℕ) → Has report.throws class ↔ Throws nodes among class
  pub rising : RiseFrom 0 report.throws

-- the report of a graph: exactly the ways in which runs end at the nodes that edges reach
abbrev pub IsReport : List GraphNode → Report → Type 0
IsReport nodes report = Reports nodes (IsReached nodes) report
