use Rattle.abs_heap.proofs.NumberWrites.{int_writes_go_on}
use Rattle.abs_heap.proofs.laws.int_writes_go_on.Goals as goal

pub returns : goal.returns
returns c = int_writes_go_on
