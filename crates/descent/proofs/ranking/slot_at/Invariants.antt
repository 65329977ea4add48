use Rattle.std.proofs.Common.{◌≡◌, drop}
use Rattle.descent.specs.Rankings.{slot_at}
use Rattle.descent.proofs.ranking.slot_at.Given as goal

abbrev pub invariant-loop-slot : goal.invariant-loop-slot
invariant-loop-slot l = slot_at (drop l.slot-index l.slots) l.size l.id ≡ slot_at l.slots l.size l.id
