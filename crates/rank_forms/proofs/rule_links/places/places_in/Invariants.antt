use Rattle.std.proofs.Common.{◌≡◌, ◌++◌, drop}
use Rattle.rank_forms.specs.rule_links.Falls.{places_in}
use Rattle.rank_forms.proofs.rule_links.places.places_in.Given as goal

abbrev pub invariant-loop-slot : goal.invariant-loop-slot
invariant-loop-slot l = l.places ++ places_in l.size (drop l.slot-index l.slots) ≡ places_in l.size l.slots
