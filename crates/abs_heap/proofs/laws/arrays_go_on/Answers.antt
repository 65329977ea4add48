use Rattle.abs_heap.proofs.NewThings.{arrays_go_on}
use Rattle.abs_heap.proofs.laws.arrays_go_on.Goals as goal

pub returns : goal.returns
returns c = arrays_go_on
