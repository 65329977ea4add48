use Rattle.abs_reach.proofs.Sound.{ways}
use Rattle.abs_reach.proofs.laws.closures_are_ways.Goals as goal

pub returns : goal.returns
returns c = ways
