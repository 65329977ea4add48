use Rattle.std.proofs.Common.{ap}
use Rattle.jvm_values.specs.Heaps.{target}
use Rattle.jvm_heaps.proofs.marking.mark.Goals as goal

pub mark_object-requires : goal.mark_object-requires
mark_object-requires c = c.requires _ (ap target c.in-Ref.is)
