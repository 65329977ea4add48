use Rattle.cert_calls.proofs.ThrowsOneAnswer.{answers_one}
use Rattle.cert_calls.proofs.throws_call.laws.answers_are_one.Goals as goal

pub returns : goal.returns
returns c = answers_one
