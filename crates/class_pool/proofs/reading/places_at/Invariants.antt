use Rattle.std.proofs.Common.{◌-◌, length}
use Rattle.class_pool.proofs.Places.{Progress}
use Rattle.class_pool.proofs.reading.places_at.Given as goal

abbrev pub invariant-loop-places : goal.invariant-loop-places
invariant-loop-places l = Progress l.bytes l.at l.count l.places.items l.next

abbrev pub decreases-loop-places : goal.decreases-loop-places
decreases-loop-places l = l.count - length l.places.items
