use Rattle.class_calls.proofs.RunOneAnswer.{answers_one}
use Rattle.class_calls.proofs.run_call.laws.answers_are_one.Goals as goal

pub returns : goal.returns
returns c = answers_one
