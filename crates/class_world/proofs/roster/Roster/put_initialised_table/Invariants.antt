use Rattle.std.proofs.Common.{◌≡◌}
use Rattle.class_world.specs.Resolve.{is_initialised}
use Rattle.class_world.specs.inner.Tables.{values_to}
use Rattle.class_world.proofs.roster.Roster.put_initialised_table.Given as goal

abbrev pub invariant-loop-class : goal.invariant-loop-class
invariant-loop-class l = l.table ≡ values_to (is_initialised l.self.classes) l.class
