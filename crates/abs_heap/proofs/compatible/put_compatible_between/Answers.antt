use Rattle.std.proofs.Common.{ℕ, ap}
use Rattle.abs_cells.specs.declared.cells.Cell.{Cell}
use Rattle.abs_heap.specs.inner.Splitting.{WantsOne}
use Rattle.abs_heap.proofs.Choosing.{among_none, among_next, among_all}
use Rattle.abs_heap.proofs.compatible.put_compatible_between.Goals as goal

pub loop-id-init : goal.loop-id-init
loop-id-init g c = among_none c.args.cells.now
    (WantsOne (g.T.Types.sub c.args.types.now) c.args.cells.now c.args.ids.now c.args.others.now) (g.P.Pairs.pairs c.args.pairs.now)

pub loop-id-preserved : goal.loop-id-preserved
loop-id-preserved g c = among_next c.args.cells.now
    (WantsOne (g.T.Types.sub c.args.types.now) c.args.cells.now c.args.ids.now c.args.others.now) c.loop-id.id-index _
    c.loop-id-item.result (g.P.Pairs.pairs c.args.pairs.now) (g.P.Pairs.pairs c.loop-id.pairs)
    (g.P.Pairs.pairs c.put_compatible_in.new.pairs) c.loop-id-test.true (ap (λ (x : ℕ × Cell). x.0) c.loop-id-item.is)
    c.loop-id.invariant c.in_ok-put_compatible_in.ensures

pub returns : goal.returns
returns g c = among_all c.args.cells.now
    (WantsOne (g.T.Types.sub c.args.types.now) c.args.cells.now c.args.ids.now c.args.others.now) c.loop-id.id-index
    (g.P.Pairs.pairs c.args.pairs.now) (g.P.Pairs.pairs c.loop-id.pairs) c.loop-id-test.false c.loop-id.invariant
