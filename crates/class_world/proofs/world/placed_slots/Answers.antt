use Rattle.class_world.proofs.Indexes.{placed_from}
use Rattle.class_world.proofs.world.placed_slots.Goals as goal

pub returns-clause-placed : goal.returns-clause-placed
returns-clause-placed c = placed_from _ _ _ c.as_slice.ensures c.all_have_places.ensures c.if-not-all_have_places.false
