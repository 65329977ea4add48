use Rattle.frame_types.proofs.Rooms.{one_more}
use Rattle.frame_types.proofs.table.Table.add_place.Goals as goal

pub returns-clause-roomier : goal.returns-clause-roomier
returns-clause-roomier c = one_more _ _ c.requires.even c.requires.small (cc (c.in_ok-push.ensures.items, c.in_ok-push-2.ensures.items))
