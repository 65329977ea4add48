use Rattle.loop_check.proofs.OneVerdict.{one_verdict}
use Rattle.loop_check.proofs.laws.loops_have_one_verdict.Goals as goal

pub returns : goal.returns
returns c = one_verdict
