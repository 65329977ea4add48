use Rattle.abs_heap.proofs.Renumbering.{number_writes_go_on}
use Rattle.abs_heap.proofs.laws.number_writes_go_on.Goals as goal

pub returns : goal.returns
returns c = number_writes_go_on
