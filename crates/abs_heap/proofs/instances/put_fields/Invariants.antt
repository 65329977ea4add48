use Rattle.std.proofs.Common.{map, take, zip}
use Rattle.abs_heap.specs.inner.Building.{IsOver}
use Rattle.abs_heap.specs.Refining.{cell_of_slot}
use Rattle.abs_heap.proofs.FieldCells.{entry_by}
use Rattle.abs_heap.proofs.instances.put_fields.Given as goal

abbrev pub invariant-loop-place : goal.invariant-loop-place
invariant-loop-place g l = IsOver l.initial.cells.items
    (map (entry_by (cell_of_slot (g.T.Types.erase l.types) l.shape)) (take l.place (zip l.ids l.slots))) l.cells.items
