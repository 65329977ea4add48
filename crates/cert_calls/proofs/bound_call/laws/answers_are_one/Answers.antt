use Rattle.cert_calls.proofs.BoundOneAnswer.{answers_one}
use Rattle.cert_calls.proofs.bound_call.laws.answers_are_one.Goals as goal

pub returns : goal.returns
returns c = answers_one
