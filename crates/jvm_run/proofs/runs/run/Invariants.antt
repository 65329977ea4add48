use Rattle.std.proofs.Common.{◌≡◌}
use Rattle.jvm_values.specs.States.{state_of}
use Rattle.class_program.specs.Views.{program_of}
use Rattle.jvm_step.specs.Running as running
use Rattle.jvm_run.proofs.runs.run.Given as goal

-- so many steps have led to the state
abbrev pub invariant-loop-count : goal.invariant-loop-count
invariant-loop-count l = running.IsNeverStuck (program_of l.program) (state_of l.initial.state)
    → running.run (program_of l.program) l.count (state_of l.initial.state) ≡ running.Step.Going (state_of l.state)
