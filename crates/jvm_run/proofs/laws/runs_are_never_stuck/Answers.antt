use Rattle.jvm_run.proofs.TypedRuns.{never_stuck}
use Rattle.jvm_run.proofs.laws.runs_are_never_stuck.Goals as goal

pub returns : goal.returns
returns c = never_stuck
