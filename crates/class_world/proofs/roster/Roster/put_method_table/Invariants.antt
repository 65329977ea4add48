use Rattle.std.proofs.Common.{◌≡◌}
use Rattle.class_world.specs.inner.Index.{method_keys}
use Rattle.class_world.specs.inner.Tables.{values_to}
use Rattle.class_world.proofs.roster.Roster.put_method_table.Given as goal

abbrev pub invariant-loop-class : goal.invariant-loop-class
invariant-loop-class l = l.table ≡ values_to (method_keys l.self.classes) l.class
