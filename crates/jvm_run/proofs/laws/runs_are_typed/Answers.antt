use Rattle.jvm_run.proofs.TypedRuns.{runs_typed}
use Rattle.jvm_run.proofs.laws.runs_are_typed.Goals as goal

pub returns : goal.returns
returns c = runs_typed
