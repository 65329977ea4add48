use Rattle.abs_reach.proofs.DroppedSizes.{sized_alike}
use Rattle.abs_reach.proofs.laws.dropped_ids_keep_sizes.Goals as goal

pub returns : goal.returns
returns c = sized_alike
