-- No run ends where a graph shows it.
use Rattle.std.specs.Prelude.{◌≡◌, ℕ, List}
use Rattle.jvm_values.specs.States.{MachineState}
use Rattle.class_program.specs.Programs.{Program, IsClosed}
use Rattle.class_program.specs.Widths.{HasWidths}
use Rattle.frame_types.specs.Tables.{CodeTypes}
use Rattle.code_verify.specs.Typings.{IsTypingOf}
use Rattle.jvm_run.specs.jvm_step.Running.{Step, run}
use Rattle.input_desc.specs.declared.desc.Desc.{Desc}
use Rattle.input_desc.specs.Descs.{IsOwnDesc}
use Rattle.input_desc.specs.Fitting.{FitsDescription}
use Rattle.input_desc.specs.Initial.{initial_of}
use Rattle.term_graph.specs.Graphs.{GraphNode}
use Rattle.loop_check.specs.Loops.{NeverEnds}

-- after every number of steps the run from a state goes on
abbrev pub GoesOnForEver : Program → MachineState → Type 0
GoesOnForEver p state = (count : ℕ) → (after : MachineState) × (run p count state ≡ Step.Going after)

-- the run from every state that a description fits goes on for ever
abbrev pub AllGoOn : Program → Desc → Type 0
AllGoOn p desc = (state : MachineState) → FitsDescription p desc state → GoesOnForEver p state

-- loops never end where a graph shows it. Premises: the program is closed, and its numbers are of their fields' widths; the typing is the
-- program's own; the description is one of this program; and a graph with the description's initial state at node 0 shows that no run ends.
-- Then the run from every state that the description fits goes on for ever
abbrev pub LoopsNeverEnd : Type 0
LoopsNeverEnd =
    (p : Program) (typing : ℕ → CodeTypes) (desc : Desc) (nodes : List GraphNode)
    → IsClosed p → HasWidths p → IsTypingOf p typing → IsOwnDesc p desc → NeverEnds p typing nodes (initial_of p desc) → AllGoOn p desc
