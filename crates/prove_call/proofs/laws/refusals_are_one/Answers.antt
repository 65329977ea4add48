use Rattle.prove_call.proofs.OneAnswer.{refusals_one}
use Rattle.prove_call.proofs.laws.refusals_are_one.Goals as goal

pub returns : goal.returns
returns c = refusals_one
