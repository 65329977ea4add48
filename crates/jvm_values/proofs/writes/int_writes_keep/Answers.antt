use Rattle.jvm_values.proofs.IntWrites.{int_writes}
use Rattle.jvm_values.proofs.writes.int_writes_keep.Goals as goal

pub returns : goal.returns
returns c = int_writes
