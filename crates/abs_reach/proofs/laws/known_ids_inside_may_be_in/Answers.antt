use Rattle.abs_reach.proofs.Sound.{may_be_in}
use Rattle.abs_reach.proofs.laws.known_ids_inside_may_be_in.Goals as goal

pub returns : goal.returns
returns c = may_be_in
