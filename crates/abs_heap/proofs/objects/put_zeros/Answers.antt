use Rattle.abs_heap.proofs.Placing.{over_none}
use Rattle.abs_heap.specs.Writing.{zero_cell}
use Rattle.abs_heap.proofs.FieldCells.{fields_next, fields_all}
use Rattle.abs_heap.proofs.objects.put_zeros.Goals as goal

pub loop-place-init : goal.loop-place-init
loop-place-init c = over_none c.args.cells.now.items c.requires.rising

pub loop-place-preserved : goal.loop-place-preserved
loop-place-preserved c = fields_next zero_cell c.args.ids.now c.args.slots.now c.loop-place.place _ _ _ c.args.cells.now.items
    c.loop-place.cells.items c.put_cell.new.cells.items c.loop-place-test.true c.requires.count c.zero_cell.ensures
    c.loop-place.invariant c.in_ok-put_cell.ensures

pub returns : goal.returns
returns c = fields_all zero_cell c.args.ids.now c.args.slots.now c.loop-place.place c.args.cells.now.items c.loop-place.cells.items
    c.loop-place-test.false c.requires.count c.loop-place.invariant
