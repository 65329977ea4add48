use Rattle.abs_heap.proofs.Loading.{items_go_on}
use Rattle.abs_heap.proofs.laws.items_go_on.Goals as goal

pub returns : goal.returns
returns c = items_go_on
