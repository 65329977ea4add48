use Rattle.abs_heap.proofs.Written.{writes_go_on}
use Rattle.abs_heap.proofs.laws.writes_go_on.Goals as goal

pub returns : goal.returns
returns c = writes_go_on
