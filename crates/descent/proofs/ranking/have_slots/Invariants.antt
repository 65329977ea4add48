use Rattle.std.proofs.Common.{◌≡◌, drop}
use Rattle.descent.specs.Rankings.{have_slots}
use Rattle.descent.proofs.ranking.have_slots.Given as goal

abbrev pub invariant-loop-id : goal.invariant-loop-id
invariant-loop-id l = have_slots l.slots l.size (drop l.id-index l.entries) ≡ have_slots l.slots l.size l.entries
