use Rattle.std.proofs.Common.{sym}
use Rattle.abs_reach.proofs.Room.{has_cell_low}
use Rattle.abs_reach.proofs.walk.turn.Goals as goal

pub put-requires-else-has : goal.put-requires-else-has
put-requires-else-has c = has_cell_low c.args.cells.now c.in-Some.next c.requires.rising
    (c.requires.there c.args.id c.args.place c.in-Some.next (sym c.in-Some.ensures.leads))
