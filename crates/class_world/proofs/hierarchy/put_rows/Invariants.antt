use Rattle.std.proofs.Common.{◌≡◌, length}
use Rattle.class_world.specs.World.{is_above}
use Rattle.class_world.specs.inner.Tables.{values_to}
use Rattle.class_world.proofs.hierarchy.put_rows.Given as goal

abbrev pub invariant-loop-class : goal.invariant-loop-class
invariant-loop-class l = l.table ≡ values_to (λ a. values_to (is_above l.roster.classes a) (length l.roster.classes)) l.class
