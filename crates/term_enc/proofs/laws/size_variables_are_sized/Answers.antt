use Rattle.term_enc.proofs.Variables.{variables_sized}
use Rattle.term_enc.proofs.laws.size_variables_are_sized.Goals as goal

pub returns : goal.returns
returns c = variables_sized
