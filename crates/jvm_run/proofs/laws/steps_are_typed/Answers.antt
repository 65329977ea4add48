use Rattle.jvm_run.proofs.TypedRuns.{steps_typed}
use Rattle.jvm_run.proofs.laws.steps_are_typed.Goals as goal

pub returns : goal.returns
returns c = steps_typed
