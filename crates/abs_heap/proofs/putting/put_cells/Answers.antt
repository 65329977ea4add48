use Rattle.abs_heap.specs.inner.Building.{named_entry}
use Rattle.abs_heap.proofs.Placing.{over_next, same_entry}
use Rattle.abs_heap.proofs.putting.put_cells.Goals as goal

pub loop-id-preserved : goal.loop-id-preserved
loop-id-preserved c = over_next (named_entry c.args.names.now) c.args.more.now c.loop-id.id-index c.loop-id-item.result _
    c.args.cells.now.items c.loop-id.cells.items c.put_cell.new.cells.items c.loop-id-test.true c.loop-id-item.is
    (same_entry _ _ _ _ c.name_of.ensures c.in_ok-named.ensures) c.loop-id.invariant c.in_ok-put_cell.ensures
