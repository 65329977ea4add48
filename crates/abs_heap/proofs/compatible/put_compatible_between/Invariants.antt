use Rattle.std.proofs.Common.{◌≡◌, true, take}
use Rattle.abs_heap.specs.inner.Building.{Gains}
use Rattle.abs_heap.specs.inner.Splitting.{WantsOne}
use Rattle.abs_heap.proofs.PairGains.{is_listed}
use Rattle.abs_heap.proofs.compatible.put_compatible_between.Given as goal

abbrev pub invariant-loop-id : goal.invariant-loop-id
invariant-loop-id g l = Gains l.cells (λ c d. (is_listed c (take l.id-index l.cells) ≡ true)
    × WantsOne (g.T.Types.sub l.types) l.cells l.ids l.others c d) (g.P.Pairs.pairs l.initial.pairs) (g.P.Pairs.pairs l.pairs)
