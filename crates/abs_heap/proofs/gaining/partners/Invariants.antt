use Rattle.std.proofs.Common.{◌≡◌, ◌<◌, ◌≤◌, ℕ, false}
use Rattle.abs_cells.specs.PairLists.{has}
use Rattle.abs_cells.specs.IdSets.{has_id}
use Rattle.abs_heap.proofs.gaining.partners.Given as goal

abbrev pub invariant-loop-other : goal.invariant-loop-other
invariant-loop-other g l =
    (m : ℕ) → (m < l.other → has_id l.set m ≡ has l.id m (g.P.Pairs.pairs l.pairs)) × (l.other ≤ m → has_id l.set m ≡ false)
