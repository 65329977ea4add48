use Rattle.std.proofs.Common.{ℕ, ap}
use Rattle.abs_cells.specs.declared.cells.Cell.{Cell}
use Rattle.abs_heap.proofs.Affected.{listed_next, listed_all}
use Rattle.abs_heap.proofs.renaming.listed_ids.Goals as goal

pub loop-id-preserved : goal.loop-id-preserved
loop-id-preserved c = listed_next c.args.set.now c.args.cells.now c.loop-id.id-index _ c.loop-id-item.result c.loop-id.ids _
    c.loop-id-test.true (ap (λ (x : ℕ × Cell). x.0) c.loop-id-item.is) c.loop-id.invariant c.in_ok-push_in.ensures

pub returns : goal.returns
returns c = listed_all c.args.set.now c.args.cells.now c.loop-id.id-index c.loop-id.ids c.loop-id-test.false c.loop-id.invariant
