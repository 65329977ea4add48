use Rattle.abs_heap.proofs.OneObject.{equal_splits}
use Rattle.abs_heap.proofs.laws.equal_splits.Goals as goal

pub returns : goal.returns
returns c = equal_splits
