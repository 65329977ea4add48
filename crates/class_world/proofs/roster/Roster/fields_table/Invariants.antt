use Rattle.std.proofs.Common.{◌≡◌}
use Rattle.class_world.specs.Fields.{fields_of}
use Rattle.class_world.specs.inner.Tables.{values_to}
use Rattle.class_world.proofs.roster.Roster.fields_table.Given as goal

abbrev pub invariant-loop-class : goal.invariant-loop-class
invariant-loop-class l = l.table ≡ values_to (fields_of l.self.classes) l.class
