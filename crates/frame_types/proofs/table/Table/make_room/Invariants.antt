use Rattle.std.proofs.Common.{◌+◌, ◌-◌, length}
use Rattle.frame_types.specs.Growth.{IsRoomier}
use Rattle.frame_types.proofs.table.Table.make_room.Given as goal

abbrev pub invariant-loop-self : goal.invariant-loop-self
invariant-loop-self l = IsRoomier l.fn.self l.self

abbrev pub decreases-loop-self : goal.decreases-loop-self
decreases-loop-self l = (l.place + 1) - length l.self.types
