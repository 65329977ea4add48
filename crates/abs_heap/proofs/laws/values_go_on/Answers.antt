use Rattle.abs_heap.proofs.FreshValues.{values_go_on}
use Rattle.abs_heap.proofs.laws.values_go_on.Goals as goal

pub returns : goal.returns
returns c = values_go_on
