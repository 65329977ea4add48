use Rattle.jvm_values.proofs.AfterWrites.{null_keeps}
use Rattle.jvm_values.proofs.writes.null_keeps_shapes.Goals as goal

pub returns : goal.returns
returns c = null_keeps
