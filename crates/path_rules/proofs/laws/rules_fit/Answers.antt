use Rattle.path_rules.proofs.Limited.{rules_fit}
use Rattle.path_rules.proofs.laws.rules_fit.Goals as goal

pub returns : goal.returns
returns c = rules_fit
