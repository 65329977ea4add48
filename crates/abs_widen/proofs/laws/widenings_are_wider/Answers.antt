use Rattle.abs_widen.proofs.Wider.{wider}
use Rattle.abs_widen.proofs.laws.widenings_are_wider.Goals as goal

pub returns : goal.returns
returns c = wider
