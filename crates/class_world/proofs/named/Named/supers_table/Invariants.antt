use Rattle.std.proofs.Common.{◌≡◌}
use Rattle.class_world.specs.World.{super_of}
use Rattle.class_world.specs.inner.Tables.{values_to}
use Rattle.class_world.proofs.named.Named.supers_table.Given as goal

abbrev pub invariant-loop-class : goal.invariant-loop-class
invariant-loop-class l = l.table ≡ values_to (super_of l.self.classes) l.class
