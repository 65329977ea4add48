use Rattle.path_rules.proofs.Telling.{walks_meet_rules}
use Rattle.path_rules.proofs.laws.walks_meet_rules.Goals as goal

pub returns : goal.returns
returns c = walks_meet_rules
