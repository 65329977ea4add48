use Rattle.std.proofs.Common.{◌≡◌, ◌⊎◌, ℕ, true}
use Rattle.std.specs.Prelude.{◌↔◌}
use Rattle.abs_cells.specs.IdSets.{has_id}
use Rattle.abs_heap.specs.inner.Splitting.{IsFieldBefore}
use Rattle.abs_heap.proofs.instances.put_references.Given as goal

abbrev pub invariant-loop-place : goal.invariant-loop-place
invariant-loop-place l = (n : ℕ) → (has_id l.set n ≡ true) ↔ ((has_id l.initial.set n ≡ true) ⊎ IsFieldBefore l.slots l.ids l.place n)
