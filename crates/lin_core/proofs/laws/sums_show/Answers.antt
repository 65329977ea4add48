use Rattle.lin_core.proofs.Matching.{sum_shows}
use Rattle.lin_core.proofs.laws.sums_show.Goals as goal

pub returns : goal.returns
returns c = sum_shows
