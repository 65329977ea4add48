use Rattle.number_graphs.proofs.Falling.{no_cycle}
use Rattle.number_graphs.proofs.laws.falling_has_no_cycle.Goals as goal

pub returns : goal.returns
returns c = no_cycle
