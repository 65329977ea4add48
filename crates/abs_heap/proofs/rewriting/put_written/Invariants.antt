use Rattle.std.proofs.Common.{map, take}
use Rattle.abs_heap.specs.inner.Building.{IsOver}
use Rattle.abs_heap.specs.inner.Renaming.{write_of}
use Rattle.abs_heap.specs.Writing.{shape_after, cell_after}
use Rattle.abs_heap.proofs.rewriting.put_written.Given as goal

abbrev pub invariant-loop-id : goal.invariant-loop-id
invariant-loop-id l = IsOver l.initial.cells.items
    (map (cell_after l.effect.names (shape_after l.effect.null l.effect.no_cycle)
    (write_of l.write.object l.write.field l.write.value)) (take l.id-index l.more)) l.cells.items
