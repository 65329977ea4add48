use Rattle.std.proofs.Common.{ap}
use Rattle.jvm_values.specs.Heaps.{target}
use Rattle.jvm_heaps.proofs.trees.mark_new.Goals as goal

pub mark_new_object-requires : goal.mark_new_object-requires
mark_new_object-requires c = c.requires _ (ap target c.in-Ref.is)
