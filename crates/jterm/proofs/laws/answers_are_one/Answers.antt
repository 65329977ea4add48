use Rattle.jterm.proofs.OneAnswer.{answers_one}
use Rattle.jterm.proofs.laws.answers_are_one.Goals as goal

pub returns : goal.returns
returns c = answers_one
