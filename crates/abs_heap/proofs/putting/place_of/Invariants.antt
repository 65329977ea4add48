use Rattle.std.proofs.Common.{◌≡◌, ◌+◌, drop}
use Rattle.abs_heap.specs.inner.Building.{place_in}
use Rattle.abs_heap.proofs.putting.place_of.Given as goal

abbrev pub invariant-loop-place : goal.invariant-loop-place
invariant-loop-place l = place_in l.id l.cells ≡ l.place + place_in l.id (drop l.place l.cells)
