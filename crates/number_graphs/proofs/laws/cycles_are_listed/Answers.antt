use Rattle.number_graphs.proofs.Cycles.{cycle_within}
use Rattle.number_graphs.proofs.laws.cycles_are_listed.Goals as goal

pub returns : goal.returns
returns c = cycle_within
