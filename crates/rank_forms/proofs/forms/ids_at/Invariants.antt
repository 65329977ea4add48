use Rattle.std.proofs.Common.{◌≡◌, ◌++◌, drop}
use Rattle.rank_forms.specs.Forms.{ids_at}
use Rattle.rank_forms.proofs.forms.ids_at.Given as goal

abbrev pub invariant-loop-part : goal.invariant-loop-part
invariant-loop-part l = l.ids ++ ids_at l.slots l.size (drop l.part-index l.parts) ≡ ids_at l.slots l.size l.parts
