-- What reports promise of runs.
use Rattle.std.specs.Prelude.{◌≡◌, ℕ, List, [], ◌∷◌, Some, slice_get}
use Rattle.jvm_values.specs.States.{MachineState}
use Rattle.abs_cells.specs.declared.cells.Cell.TheVariants.{Obj}
use Rattle.abs_cells.specs.AbstractStates.{AbstractState}
use Rattle.abs_cells.specs.Cells.{cell_at}
use Rattle.class_program.specs.Programs.{Program, IsClosed}
use Rattle.class_program.specs.Widths.{HasWidths}
use Rattle.frame_types.specs.Tables.{CodeTypes}
use Rattle.code_verify.specs.Typings.{IsTypingOf}
use Rattle.input_desc.specs.declared.desc.Desc.{Desc}
use Rattle.input_desc.specs.Descs.{IsOwnDesc}
use Rattle.input_desc.specs.Fitting.{FitsDescription}
use Rattle.input_desc.specs.Initial.{initial_of}
use Rattle.path_rules.specs.Walks.{Spot}
use Rattle.term_graph.specs.declared.links.Link.{Link}
use Rattle.term_graph.specs.declared.nodes.By.TheVariants.{End}
use Rattle.term_graph.specs.Graphs.{GraphNode}
use Rattle.cert_check.specs.graph_check.Good.{GraphOk}
use Rattle.cert_check.specs.Certified.{IsCertified}
use Rattle.cert_check.specs.Walks.{Station, IsAt, GoesTo}
use Rattle.throw_report.specs.declared.ways.Report.{Report}
use Rattle.throw_report.specs.Reports.{IsReport}
use Rattle.throw_report.specs.Endings.{EndsAsReported}

-- ---- reports

-- a graph has one report at most
abbrev pub ReportsAreOne : Type 0
ReportsAreOne = (nodes : List GraphNode) (a b : Report) → IsReport nodes a → IsReport nodes b → a ≡ b

-- ---- thrown objects

-- an id of a state has an `Obj`, so the class of its object is known
pub record HasObject (state : AbstractState) (id : ℕ) : Type 0 where
  pub class : ℕ
  pub fields : List ℕ
  pub cell : cell_at state id ≡ Some (Obj class fields)

-- in a good graph what an End node throws is an object whose class is known
abbrev pub EndNodesThrowObjects : Type 0
EndNodesThrowObjects =
    (p : Program) (typing : ℕ → CodeTypes) (nodes : List GraphNode) (root : AbstractState) (links : List (List Link))
    → GraphOk p typing nodes root links
    → (n : ℕ) (node : GraphNode) → slice_get nodes n ≡ Some node → node.by ≡ End
    → (id : ℕ) → node.state.throwing ≡ Some id → HasObject node.state id

-- ---- walks

-- a walk leads from a station, edge by edge over these others, to an End node
abbrev pub WalksToEnd : Program → (ℕ → CodeTypes) → List GraphNode → List (List Link) → Station → List Station → Type 0
WalksToEnd p typing nodes links from [] = (at : IsAt p typing nodes from) × (at.node.by ≡ End)
WalksToEnd p typing nodes links from (next ∷ rest) = GoesTo p typing nodes links from next × WalksToEnd p typing nodes links next rest

-- a report tells how all walks end. Premises: the program is closed, and its numbers are of their fields' widths; the typing is the
-- program's own; and the nodes are those of a good graph. Then a state of the machine from which a walk of typed states that fit leads from
-- node 0 to an End node has a run that ends in a way that the report has
abbrev pub AllWalksEndSo : List GraphNode → Report → Type 0
AllWalksEndSo nodes report =
    (p : Program) (typing : ℕ → CodeTypes) (root : AbstractState) (links : List (List Link))
    → IsClosed p → HasWidths p → IsTypingOf p typing → GraphOk p typing nodes root links
    → (spot : Spot) (walk : List Station) → WalksToEnd p typing nodes links (record { node = 0; spot = spot }) walk
    → EndsAsReported p report spot.machine

-- the report of a graph tells how all walks end
abbrev pub WalksEndAsReported : Type 0
WalksEndAsReported = (nodes : List GraphNode) (report : Report) → IsReport nodes report → AllWalksEndSo nodes report

-- ---- certificates

-- a certified graph's report tells how runs end. Premises: the program is closed, and its numbers are of their fields' widths; the typing
-- is the program's own; the description is one of this program; a certificate shows of nodes and cuts that the graph ends from the
-- description's initial state; and the report is that of the nodes. Then every state that the description fits has a run that ends in a way
-- that the report has
abbrev pub CertifiedRunsEndAsReported : Type 0
CertifiedRunsEndAsReported =
    (p : Program) (typing : ℕ → CodeTypes) (desc : Desc) (nodes : List GraphNode) (cuts : List ℕ) (report : Report)
    → IsClosed p → HasWidths p → IsTypingOf p typing → IsOwnDesc p desc
    → IsCertified p typing nodes cuts (initial_of p desc) → IsReport nodes report
    → (state : MachineState) → FitsDescription p desc state → EndsAsReported p report state
