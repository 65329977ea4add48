-- Words of the private calls that check a loop.
use Rattle.std.specs.Prelude.{ℕ, ◌<◌, Bool, true, false, List, Result, Ok, Err}
use Rattle.abs_cells.specs.AbstractStates.{AbstractState}
use Rattle.class_program.specs.Programs.{Program}
use Rattle.frame_types.specs.Tables.{CodeTypes}
use Rattle.number_graphs.specs.Graphs.{IsLeastOnCycle}
use Rattle.number_graphs.specs.Lists.{Edge}
use Rattle.input_desc.specs.declared.desc.Desc.{Desc}
use Rattle.input_desc.specs.declared.states.StateInput.{StateInput}
use Rattle.term_graph.specs.declared.links.Link.{Link}
use Rattle.term_graph.specs.declared.nodes.By.{By}
use Rattle.term_graph.specs.declared.nodes.By.TheVariants as ways
use Rattle.term_graph.specs.Graphs.{GraphNode}
use Rattle.graph_check.specs.declared.fault.CheckFault.{CheckFault}
use Rattle.graph_check.specs.declared.fault.CheckFault.TheVariants as checks
use Rattle.loop_check.specs.declared.fault.LoopFault.{LoopFault}
use Rattle.loop_check.specs.declared.fault.LoopFault.TheVariants.{Graph, IdleCycle, NotFitting, Memory}
use Rattle.loop_check.specs.Fitting.{GivenFits}
use Rattle.loop_check.specs.Loops.{idle_rows, HasNoIdleCycle, IsEndNode, NeverEnds, Fails}

-- whether a node is left as the end of the run
abbrev pub is_end : By → Bool
is_end ways.End = true
is_end (ways.Expand named) = false
is_end (ways.Instance target entries) = false
is_end ways.Todo = false

-- none of the nodes before one is an End node
abbrev pub NoneBefore : List GraphNode → ℕ → Type 0
NoneBefore nodes n = (k : ℕ) → k < n → IsEndNode nodes k → ⊥

-- the fault of a loop whose graph is no good one
abbrev pub fault_of : CheckFault → LoopFault
fault_of (checks.At node what) = Graph node what
fault_of checks.Memory = Memory

-- what a test for idle cycles answers: no cycle is of edges that are no steps, or the least node on one. Want of memory says nothing
abbrev pub Idles : List GraphNode → List (List Link) → Result (Unit {0}) LoopFault → Type 0
Idles nodes links (Ok done) = HasNoIdleCycle nodes links
Idles nodes links (Err (IdleCycle node)) = IsLeastOnCycle (Edge (idle_rows nodes links)) node
Idles nodes links (Err Memory) = Unit {0}
Idles nodes links (Err fault) = ⊥

-- what a check of a loop's graph is to answer: it shows that no run ends, or this is why it doesn't
abbrev pub Answers : Program → (ℕ → CodeTypes) → List GraphNode → AbstractState → Result (Unit {0}) LoopFault → Type 0
Answers p typing nodes root (Ok done) = NeverEnds p typing nodes root
Answers p typing nodes root (Err fault) = Fails p typing nodes root fault

-- what a test of the given input answers: a run with it begins in a state that the description fits, or not. Want of memory says nothing
abbrev pub FitsOr : Program → Desc → StateInput → Result (Unit {0}) LoopFault → Type 0
FitsOr p desc given (Ok done) = GivenFits p desc given
FitsOr p desc given (Err NotFitting) = GivenFits p desc given → ⊥
FitsOr p desc given (Err Memory) = Unit {0}
FitsOr p desc given (Err fault) = ⊥
