use Rattle.std.proofs.Common.{◌≡◌, ◌-◌, ℕ, take, length}
use Rattle.std.specs.List.{list_any}
use Rattle.abs_cells.specs.IdSets.{has_id}
use Rattle.abs_heap.specs.inner.Renaming.{is_beside}
use Rattle.abs_heap.proofs.rewriting.ids_beside.Given as goal

abbrev pub invariant-loop-a : goal.invariant-loop-a
invariant-loop-a l = (m : ℕ) → has_id l.set m ≡ list_any (is_beside l.others m) (take l.n l.pairs)

abbrev pub decreases-loop-a : goal.decreases-loop-a
decreases-loop-a l = length l.pairs - l.n
