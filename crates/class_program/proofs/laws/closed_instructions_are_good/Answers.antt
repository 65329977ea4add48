use Rattle.class_program.proofs.GoodInstructions.{good_at}
use Rattle.class_program.proofs.laws.closed_instructions_are_good.Goals as goal

pub returns : goal.returns
returns c = λ p good number pc op next e. good_at p good number pc op next e
