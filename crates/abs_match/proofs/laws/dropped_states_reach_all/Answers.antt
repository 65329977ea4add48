use Rattle.abs_match.proofs.Reaching.{dropped_reach_all}
use Rattle.abs_match.proofs.laws.dropped_states_reach_all.Goals as goal

pub returns : goal.returns
returns c = dropped_reach_all
