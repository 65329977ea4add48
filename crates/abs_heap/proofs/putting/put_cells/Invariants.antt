use Rattle.std.proofs.Common.{map, take}
use Rattle.abs_heap.specs.inner.Building.{IsOver, named_entry}
use Rattle.abs_heap.proofs.putting.put_cells.Given as goal

abbrev pub invariant-loop-id : goal.invariant-loop-id
invariant-loop-id l = IsOver l.initial.cells.items (map (named_entry l.names) (take l.id-index l.more)) l.cells.items
