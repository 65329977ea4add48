use Rattle.abs_heap.proofs.Replacing.{null_splits}
use Rattle.abs_heap.proofs.laws.null_splits.Goals as goal

pub returns : goal.returns
returns c = null_splits
