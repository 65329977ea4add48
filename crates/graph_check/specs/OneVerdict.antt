-- A graph has one verdict.
use Rattle.std.specs.Prelude.{◌≡◌, ◌≢◌, ℕ, List, Result, Err}
use Rattle.abs_cells.specs.AbstractStates.{AbstractState}
use Rattle.class_program.specs.Programs.{Program}
use Rattle.frame_types.specs.Tables.{CodeTypes}
use Rattle.term_graph.specs.declared.links.Links.{Links}
use Rattle.term_graph.specs.Graphs.{GraphNode}
use Rattle.graph_check.specs.declared.fault.CheckFault.{CheckFault}
use Rattle.graph_check.specs.declared.fault.CheckFault.TheVariants.{Memory}
use Rattle.graph_check.specs.Good.{Tells}

-- a graph is good, and its links are one list; or it has one first fault; and never both. Want of memory is left aside
abbrev pub GraphsHaveOneVerdict : Type 0
GraphsHaveOneVerdict =
    (p : Program) (typing : ℕ → CodeTypes) (nodes : List GraphNode) (root : AbstractState) (one other : Result Links CheckFault)
    → Tells p typing nodes root one → Tells p typing nodes root other → one ≢ Err Memory → other ≢ Err Memory → one ≡ other
