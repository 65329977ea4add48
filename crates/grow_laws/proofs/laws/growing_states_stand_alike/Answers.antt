use Rattle.grow_laws.proofs.StandAlike.{stand_alike}
use Rattle.grow_laws.proofs.laws.growing_states_stand_alike.Goals as goal

pub returns : goal.returns
returns c = λ p typing a b typed g h heads mode. stand_alike p typing typed a b g h heads mode
