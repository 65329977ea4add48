use Rattle.std.proofs.Common.{◌≡◌, take}
use Rattle.abs_heap.specs.inner.Renaming.{ids_among}
use Rattle.abs_heap.proofs.renaming.listed_ids.Given as goal

abbrev pub invariant-loop-id : goal.invariant-loop-id
invariant-loop-id l = l.ids ≡ ids_among l.set (take l.id-index l.cells)
