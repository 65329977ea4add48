use Rattle.one_expansion.proofs.OneAnswer.{answers_one}
use Rattle.one_expansion.proofs.laws.answers_are_one.Goals as goal

pub returns : goal.returns
returns c = answers_one
