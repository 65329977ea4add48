-- Words of private calls: how a report is made, node by node.
use Rattle.std.specs.Prelude.{◌≡◌, ◌↔◌, ◌||◌, ◌==◌, ℕ, Bool, true, false, nat_lt, filter, if◌then◌else◌, List, ◌∷◌, ◌++◌, Option}
use Rattle.std.specs.Prelude.{Some, None}
use Rattle.std.specs.Prelude.{slice_get, slice_index_or, MatchBool}
use Rattle.std.specs.Option.{option_and_then}
use Rattle.abs_cells.specs.declared.cells.Cell.{Cell}
use Rattle.abs_cells.specs.declared.cells.Cell.TheVariants as cells
use Rattle.abs_cells.specs.AbstractStates.{AbstractState}
use Rattle.abs_cells.specs.Cells.{cell_in}
use Rattle.term_graph.specs.declared.nodes.By.{By}
use Rattle.term_graph.specs.declared.nodes.By.TheVariants as ways
use Rattle.term_graph.specs.Graphs.{GraphNode}
use Rattle.throw_report.specs.declared.ways.Report.{Report}
use Rattle.throw_report.specs.Reports.{IsReached}

-- ---- numbers

-- the numbers of a list that are below one
abbrev pub below : ℕ → List ℕ → List ℕ
below number list = filter (λ n. nat_lt n number) list

-- the numbers of a list that are above one
abbrev pub above : ℕ → List ℕ → List ℕ
above number list = filter (λ n. nat_lt number n) list

-- a rising list with one number more, at its place and once
abbrev pub with_number : ℕ → List ℕ → List ℕ
with_number number list = below number list ++ number ∷ above number list

-- ---- nodes that are reached

-- whether a node is node 0, or is marked
abbrev pub is_marked : List Bool → ℕ → Bool
is_marked marks number = (number == 0) || slice_index_or marks number false

-- exactly the nodes that edges reach are marked, node 0 aside
abbrev pub AreMarked : List GraphNode → List Bool → Type 0
AreMarked nodes marks = (n : ℕ) (node : GraphNode) → slice_get nodes n ≡ Some node → (is_marked marks n ≡ true) ↔ IsReached nodes n

-- ---- what a node adds

-- the class of the object that a cell knows
abbrev pub class_of : Cell → Option ℕ
class_of (cells.Int interval) = None
class_of cells.Null = None
class_of (cells.Obj class ids) = Some class
class_of (cells.Nums kind len) = None
class_of (cells.Refs element len shape) = None
class_of (cells.Unk bound nullable shape) = None

-- the class of the object that the cell of an id knows
abbrev pub class_in : List (ℕ × Cell) → ℕ → Option ℕ
class_in all id = option_and_then class_of (cell_in all id)

-- a report with one thrown class more, if there is one
abbrev pub with_class : Option ℕ → Report → Report
with_class None report = report
with_class (Some class) report = record { returns = report.returns; throws = with_number class report.throws }

-- a report with the way in which a run ends: it returns where no id is thrown, else it throws an object of the id's class
abbrev pub with_thrown : List (ℕ × Cell) → Option ℕ → Report → Report
with_thrown all None report = record { returns = true; throws = report.throws }
with_thrown all (Some id) report = with_class (class_in all id) report

-- a report with the way in which runs end with a state
abbrev pub with_end : AbstractState → Report → Report
with_end state report = with_thrown state.cells state.throwing report

-- whether a node is left as the end of the run
abbrev pub is_end : By → Bool
is_end ways.End = true
is_end (ways.Expand named) = false
is_end (ways.Instance target entries) = false
is_end ways.Todo = false

-- a report with the way in which runs end at a node, if it is an End node
abbrev pub with_node : GraphNode → Report → Report
with_node node report = if is_end node.by then with_end node.state report else report

-- a report becomes another one by the way in which runs end at the node of a number
pub record AddsNode (nodes : List GraphNode) (number : ℕ) (report more : Report) : Type 0 where
  pub node : GraphNode
  pub is : slice_get nodes number ≡ Some node
  pub adds : more ≡ with_node node report

-- a report becomes another one by the way in which runs end at the node of a number, if the node is marked; else it stays
abbrev pub AddsMarked : List GraphNode → List Bool → ℕ → Report → Report → Type 0
AddsMarked nodes marks number report more = MatchBool (is_marked marks number) (AddsNode nodes number report more) (more ≡ report)
