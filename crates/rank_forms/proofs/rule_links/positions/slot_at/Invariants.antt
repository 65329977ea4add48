use Rattle.std.proofs.Common.{◌≡◌, drop}
use Rattle.rank_forms.specs.rule_links.Positions.{slot_at}
use Rattle.rank_forms.proofs.rule_links.positions.slot_at.Given as goal

abbrev pub invariant-loop-slot : goal.invariant-loop-slot
invariant-loop-slot l = slot_at (drop l.slot-index l.slots) l.size l.place ≡ slot_at l.slots l.size l.place
