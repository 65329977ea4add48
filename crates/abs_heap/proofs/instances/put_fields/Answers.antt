use Rattle.abs_heap.specs.Refining.{cell_of_slot}
use Rattle.abs_heap.proofs.Placing.{over_none}
use Rattle.abs_heap.proofs.FieldCells.{fields_next, fields_all}
use Rattle.abs_heap.proofs.instances.put_fields.Goals as goal

pub loop-place-init : goal.loop-place-init
loop-place-init g c = over_none c.args.cells.now.items c.requires.rising

pub loop-place-preserved : goal.loop-place-preserved
loop-place-preserved g c = fields_next (cell_of_slot (g.T.Types.erase c.args.types.now) c.args.shape) c.args.ids.now
    c.args.slots.now c.loop-place.place _ _ _ c.args.cells.now.items c.loop-place.cells.items c.put_cell.new.cells.items
    c.loop-place-test.true c.requires.count c.cell_of_slot.ensures c.loop-place.invariant c.in_ok-put_cell.ensures

pub returns : goal.returns
returns g c = fields_all (cell_of_slot (g.T.Types.erase c.args.types.now) c.args.shape) c.args.ids.now c.args.slots.now
    c.loop-place.place c.args.cells.now.items c.loop-place.cells.items c.loop-place-test.false c.requires.count c.loop-place.invariant
