use Rattle.std.proofs.Common.{◌≡◌, true, take}
use Rattle.abs_cells.specs.IdSets.{has_id}
use Rattle.abs_heap.specs.inner.Building.{Gains}
use Rattle.abs_heap.proofs.PairGains.{is_listed}
use Rattle.abs_heap.proofs.gaining.put_between.Given as goal

abbrev pub invariant-loop-id : goal.invariant-loop-id
invariant-loop-id g l = Gains l.cells (λ c d. ((has_id l.ids c ≡ true) × (is_listed c (take l.id-index l.cells) ≡ true))
    × (has_id l.others d ≡ true)) (g.P.Pairs.pairs l.initial.pairs) (g.P.Pairs.pairs l.pairs)
