use Rattle.std.proofs.Common.{◌∙◌, ℕ, List, ap}
use Rattle.abs_heap.specs.Names.{name_in}
use Rattle.abs_heap.specs.inner.Renaming.{write_of}
use Rattle.abs_heap.specs.Writing.{shape_after, cell_after}
use Rattle.abs_heap.proofs.Placing.{over_next, same_entry}
use Rattle.abs_heap.proofs.rewriting.put_written.Goals as goal

pub loop-id-preserved : goal.loop-id-preserved
loop-id-preserved c = over_next (cell_after c.args.effect.now.names (shape_after c.args.effect.now.null c.args.effect.now.no_cycle)
    (write_of c.args.write.now.object c.args.write.now.field c.args.write.now.value)) c.args.more.now c.loop-id.id-index
    c.loop-id-item.result _ c.args.cells.now.items c.loop-id.cells.items c.put_cell.new.cells.items c.loop-id-test.true c.loop-id-item.is
    (same_entry _ _ _ _ (c.name_of.ensures ∙ ap (λ (ns : List (ℕ × ℕ)). name_in ns c.loop-id-item.result.0) c.as_slice.ensures)
    c.in_ok-after.ensures) c.loop-id.invariant c.in_ok-put_cell.ensures
