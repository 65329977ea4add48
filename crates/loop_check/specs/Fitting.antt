-- What the check of a loop with a given state is to answer.
use Rattle.std.specs.Prelude.{ℕ, List, Result, Ok, Err}
use Rattle.class_program.specs.Programs.{Program}
use Rattle.frame_types.specs.Tables.{CodeTypes}
use Rattle.input_desc.specs.declared.desc.Desc.{Desc}
use Rattle.input_desc.specs.declared.states.StateInput.{StateInput}
use Rattle.input_desc.specs.Initial.{initial_of}
use Rattle.input_fits.specs.Givens.{IsFitting}
use Rattle.term_graph.specs.Graphs.{GraphNode}
use Rattle.loop_check.specs.declared.fault.LoopFault.{LoopFault}
use Rattle.loop_check.specs.declared.fault.LoopFault.TheVariants.{NotFitting}
use Rattle.loop_check.specs.Loops.{NeverEnds, Fails}

-- a run with the given arguments, values of static fields and heap begins in a state that the description fits
abbrev pub GivenFits : Program → Desc → StateInput → Type 0
GivenFits p desc given = IsFitting p desc given.args given.statics given.heap

-- what the check of a loop is to answer: the graph begins with the description's initial state and shows that no run ends, and what is
-- given fits; or the first of what fails, what is given last. Then each state that the description fits goes on for ever (`LoopsNeverEnd`),
-- and one of these is given
abbrev pub ChecksLoop : Program → (ℕ → CodeTypes) → Desc → List GraphNode → StateInput → Result (Unit {0}) LoopFault → Type 0
ChecksLoop p typing desc nodes given (Ok done) = NeverEnds p typing nodes (initial_of p desc) × GivenFits p desc given
ChecksLoop p typing desc nodes given (Err NotFitting) = NeverEnds p typing nodes (initial_of p desc) × (GivenFits p desc given → ⊥)
ChecksLoop p typing desc nodes given (Err fault) = Fails p typing nodes (initial_of p desc) fault
