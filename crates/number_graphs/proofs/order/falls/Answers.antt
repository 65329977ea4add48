use Rattle.std.proofs.Common.{sym}
use Rattle.number_graphs.proofs.Falling.{row_here, falls_more, falls_all}
use Rattle.number_graphs.proofs.order.falls.Goals as goal

pub loop-place-preserved : goal.loop-place-preserved
loop-place-preserved c =
    falls_more c.args.graph.now c.args.ranks.now c.loop-place.place c.rank_at-rank.result c.as_slice.result.now
    (row_here c.args.graph.now c.loop-place.place c.index-graph-place.result c.as_slice.result.now c.loop-place-test.true
    c.index-graph-place.is c.as_slice.ensures)
    (sym c.rank_at-rank.ensures) (sym c.if-not-are_lower.ensures) c.loop-place.invariant

pub returns : goal.returns
returns c = λ t. falls_all c.args.graph.now c.args.ranks.now c.loop-place.place c.loop-place-test.false c.loop-place.invariant
