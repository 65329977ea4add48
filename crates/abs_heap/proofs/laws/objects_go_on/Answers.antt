use Rattle.abs_heap.proofs.NewThings.{objects_go_on}
use Rattle.abs_heap.proofs.laws.objects_go_on.Goals as goal

pub returns : goal.returns
returns c = objects_go_on
