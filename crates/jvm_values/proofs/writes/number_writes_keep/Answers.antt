use Rattle.jvm_values.proofs.IntWrites.{number_writes}
use Rattle.jvm_values.proofs.writes.number_writes_keep.Goals as goal

pub returns : goal.returns
returns c = number_writes
