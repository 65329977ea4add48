-- What a call that runs so many steps answers and leaves.
use Rattle.std.specs.Prelude.{◌≡◌, ℕ, ◌<◌, Result, Ok, Err}
use Rattle.jvm_values.specs.States.{MachineState}
use Rattle.class_program.specs.Programs.{Program}
use Rattle.jvm_step.specs.Running.{Step, step, run}
use Rattle.jvm_run.specs.declared.ended.Ended.{Ended}
use Rattle.jvm_run.specs.declared.ended.Ended.TheVariants as ends

-- fewer steps than a number lead from one state to another
abbrev pub LeadsTo : Program → MachineState → ℕ → MachineState → Type 0
LeadsTo p old fuel new = (count : ℕ) × (count < fuel) × (run p count old ≡ Step.Going new)

-- How a run of so many steps ends, and the state that it leaves: all steps are done, and the state is the last one; or one
-- step more from the state that is left ends the run by a return or a throw.
abbrev pub EndsAs : Program → MachineState → ℕ → Ended → MachineState → Type 0
EndsAs p old fuel ends.Out new = run p fuel old ≡ Step.Going new
EndsAs p old fuel (ends.Returned value) new = LeadsTo p old fuel new × (step p new ≡ Step.Returned value)
EndsAs p old fuel (ends.Threw r) new = LeadsTo p old fuel new × (step p new ≡ Step.Threw r)

-- How a run of so many steps ends, and the state that it leaves; or memory is wanting for the next step from the state that
-- is left.
abbrev pub Ran : {E : Type 0} → Program → MachineState → ℕ → Result Ended E → MachineState → Type 0
Ran p old fuel (Ok ended) new = EndsAs p old fuel ended new
Ran p old fuel (Err fault) new = LeadsTo p old fuel new
