use Rattle.jvm_step.proofs.Rooms.{rooms_popped}
use Rattle.jvm_step.proofs.tops.drop_top.Goals as goal

pub returns-clause-room : goal.returns-clause-room
returns-clause-room c methods h = rooms_popped methods c.pop.result _ _ c.pop.ensures.items h
