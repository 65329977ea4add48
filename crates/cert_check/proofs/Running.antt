-- Runs, one step after another.
use Rattle.std.proofs.Common.{◌≡◌, ℕ, zero, suc, Bool, true, false, sym, ap, subst}
use Rattle.jvm_values.specs.States.{MachineState}
use Rattle.class_program.specs.Programs.{Program}
use Rattle.jvm_step.specs.Running.{step, step_on, run, IsEnd, Ends}
use Rattle.jvm_step.specs.Running.Step.{Going}
use Rattle.graph_check.specs.abs_expand.Laws.{IsAfter}

-- the run of one step more begins with that step
pub step_first : (p : Program) (machine after : MachineState) → step p machine ≡ Going after → (count : ℕ)
    → run p (suc count) machine ≡ run p count after
unfolding step_on
step_first p machine after e zero = e
step_first p machine after e (suc count) = ap (step_on p) (step_first p machine after e count)

pub ends_now : (p : Program) (machine : MachineState) → IsEnd (step p machine) → Ends p machine
unfolding step_on
ends_now p machine e = (1, e)

-- where the state at a child ends, so does the one before
pub ends_before : (p : Program) (steps : Bool) (machine after : MachineState) → IsAfter p steps machine after → Ends p after
    → Ends p machine
ends_before p false machine after is ends = subst (Ends p) is ends
ends_before p true machine after is ends = (suc ends.0, subst IsEnd (sym (step_first p machine after is ends.0)) ends.1)
