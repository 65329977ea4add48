use Rattle.jvm_values.proofs.AfterWrites.{gains}
use Rattle.jvm_values.proofs.writes.write_gains.Goals as goal

pub returns : goal.returns
returns c = gains
