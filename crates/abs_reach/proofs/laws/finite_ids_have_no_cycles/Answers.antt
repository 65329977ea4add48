use Rattle.abs_reach.proofs.Sound.{finite}
use Rattle.abs_reach.proofs.laws.finite_ids_have_no_cycles.Goals as goal

pub returns : goal.returns
returns c = finite
