use Rattle.jvm_values.proofs.Typed.{closed}
use Rattle.jvm_values.proofs.laws.typed_heaps_are_closed.Goals as goal

pub returns : goal.returns
returns c = closed
