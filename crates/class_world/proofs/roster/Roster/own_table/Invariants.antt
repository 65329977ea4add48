use Rattle.std.proofs.Common.{◌≡◌}
use Rattle.class_world.specs.Fields.{own_slots}
use Rattle.class_world.specs.inner.Tables.{values_to}
use Rattle.class_world.proofs.roster.Roster.own_table.Given as goal

abbrev pub invariant-loop-class : goal.invariant-loop-class
invariant-loop-class l = l.table ≡ values_to (own_slots l.self.classes) l.class
