use Rattle.cert_calls.proofs.LoopOneAnswer.{answers_one}
use Rattle.cert_calls.proofs.loop_call.laws.answers_are_one.Goals as goal

pub returns : goal.returns
returns c = answers_one
