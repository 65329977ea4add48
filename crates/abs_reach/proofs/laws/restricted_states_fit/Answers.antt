use Rattle.abs_reach.proofs.Restricting.{restricted}
use Rattle.abs_reach.proofs.laws.restricted_states_fit.Goals as goal

pub returns : goal.returns
returns c = restricted
