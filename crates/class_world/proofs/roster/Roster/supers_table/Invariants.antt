use Rattle.std.proofs.Common.{◌≡◌}
use Rattle.class_world.specs.inner.Once.{supers_once}
use Rattle.class_world.specs.inner.Tables.{values_to}
use Rattle.class_world.proofs.roster.Roster.supers_table.Given as goal

abbrev pub invariant-loop-class : goal.invariant-loop-class
invariant-loop-class l = l.table ≡ values_to (supers_once l.self.classes) l.class
