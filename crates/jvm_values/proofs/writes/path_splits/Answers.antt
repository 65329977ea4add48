use Rattle.jvm_values.proofs.AfterWrites.{splits}
use Rattle.jvm_values.proofs.writes.path_splits.Goals as goal

pub returns : goal.returns
returns c = splits
