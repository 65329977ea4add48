use Rattle.std.proofs.Common.{◌≡◌, drop}
use Rattle.std.specs.List.{list_all}
use Rattle.class_world.specs.inner.Index.{has_places}
use Rattle.class_world.proofs.world.all_have_places.Given as goal

abbrev pub invariant-loop-row : goal.invariant-loop-row
invariant-loop-row l = list_all has_places (drop l.row-index l.slots) ≡ list_all has_places l.slots
