use Rattle.jvm_run.proofs.TypedRuns.{starts_typed}
use Rattle.jvm_run.proofs.laws.starts_are_typed.Goals as goal

pub returns : goal.returns
returns c = starts_typed
