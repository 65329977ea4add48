use Rattle.jvm_values.proofs.AfterWrites.{keeps}
use Rattle.jvm_values.proofs.writes.write_keeps.Goals as goal

pub returns : goal.returns
returns c = keeps
