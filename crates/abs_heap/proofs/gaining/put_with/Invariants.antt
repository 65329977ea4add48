use Rattle.std.proofs.Common.{◌≡◌, true, take}
use Rattle.abs_cells.specs.IdSets.{has_id}
use Rattle.abs_heap.specs.inner.Building.{Gains}
use Rattle.abs_heap.proofs.PairGains.{is_listed}
use Rattle.abs_heap.proofs.gaining.put_with.Given as goal

abbrev pub invariant-loop-other : goal.invariant-loop-other
invariant-loop-other g l = Gains l.cells
    (λ c d. (c ≡ l.id) × ((has_id l.others d ≡ true) × (is_listed d (take l.other-index l.cells) ≡ true)))
    (g.P.Pairs.pairs l.initial.pairs) (g.P.Pairs.pairs l.pairs)
