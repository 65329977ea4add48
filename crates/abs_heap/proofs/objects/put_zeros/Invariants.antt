use Rattle.std.proofs.Common.{map, take, zip}
use Rattle.abs_heap.specs.inner.Building.{IsOver}
use Rattle.abs_heap.specs.Writing.{zero_cell}
use Rattle.abs_heap.proofs.FieldCells.{entry_by}
use Rattle.abs_heap.proofs.objects.put_zeros.Given as goal

abbrev pub invariant-loop-place : goal.invariant-loop-place
invariant-loop-place l = IsOver l.initial.cells.items (map (entry_by zero_cell) (take l.place (zip l.ids l.slots))) l.cells.items
