use Rattle.abs_widen.proofs.Counting.{few}
use Rattle.abs_widen.proofs.laws.widenings_are_few.Goals as goal

pub returns : goal.returns
returns c = few
