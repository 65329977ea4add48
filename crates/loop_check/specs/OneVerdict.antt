-- The check of a loop has one answer.
use Rattle.std.specs.Prelude.{◌≡◌, ◌≢◌, ℕ, List, Result, Err}
use Rattle.class_program.specs.Programs.{Program}
use Rattle.frame_types.specs.Tables.{CodeTypes}
use Rattle.input_desc.specs.declared.desc.Desc.{Desc}
use Rattle.input_desc.specs.declared.states.StateInput.{StateInput}
use Rattle.term_graph.specs.Graphs.{GraphNode}
use Rattle.loop_check.specs.declared.fault.LoopFault.{LoopFault}
use Rattle.loop_check.specs.declared.fault.LoopFault.TheVariants.{Memory}
use Rattle.loop_check.specs.Fitting.{ChecksLoop}

-- a graph and what is given show that no run ends, or there is one first fault, and never both. Want of memory is left aside
abbrev pub LoopsHaveOneVerdict : Type 0
LoopsHaveOneVerdict =
    (p : Program) (typing : ℕ → CodeTypes) (desc : Desc) (nodes : List GraphNode) (given : StateInput) (a b : Result (Unit {0}) LoopFault)
    → ChecksLoop p typing desc nodes given a → ChecksLoop p typing desc nodes given b → a ≢ Err Memory → b ≢ Err Memory → a ≡ b
