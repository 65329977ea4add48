use Rattle.jvm_values.proofs.AfterWrites.{no_cycle}
use Rattle.jvm_values.proofs.writes.write_makes_no_cycle.Goals as goal

pub returns : goal.returns
returns c = no_cycle
