use Rattle.one_expansion.proofs.OneAnswer.{children_one}
use Rattle.one_expansion.proofs.laws.children_are_one.Goals as goal

pub returns : goal.returns
returns c = children_one
