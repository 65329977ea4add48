use Rattle.std.proofs.Common.{arith}
use Rattle.abs_cells.proofs.PackedCalls.{room_counted}
use Rattle.abs_cells.proofs.packed.make_room.Goals as goal

pub returns-in_ok-resize-clause-counted : goal.returns-in_ok-resize-clause-counted
returns-in_ok-resize-clause-counted c = room_counted c.args.slots.now.items c.resize.new.self.items _ _ c.in_ok-resize.ensures.items
    (omega (arith, c.args.slots.now.ok.0))
