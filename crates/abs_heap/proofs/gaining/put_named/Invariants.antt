use Rattle.std.proofs.Common.{◌≡◌, ◌-◌, true, take, length}
use Rattle.abs_cells.specs.PairLists.{has}
use Rattle.abs_heap.specs.inner.Building.{Gains}
use Rattle.abs_heap.specs.Names.{name_in, IsImage}
use Rattle.abs_heap.proofs.gaining.put_named.Given as goal

abbrev pub invariant-loop-a : goal.invariant-loop-a
invariant-loop-a g l =
    Gains l.cells (IsImage (name_in l.names) (λ x y. has x y (take l.n l.old) ≡ true)) (g.P.Pairs.pairs l.initial.pairs)
    (g.P.Pairs.pairs l.pairs)

abbrev pub decreases-loop-a : goal.decreases-loop-a
decreases-loop-a g l = length l.old - l.n
