use Rattle.abs_widen.specs.inner.Pairing.{WantsOne, WantsShare}
use Rattle.abs_widen.proofs.Joining.{joined_more, joined_row}
use Rattle.abs_widen.proofs.pairing.join_below.Goals as goal

pub loop-m-preserved : goal.loop-m-preserved
loop-m-preserved g c = (
  joined_more (WantsOne c.args.a.now c.args.b.now c.args.pairs.now c.args.cells.now) c.args.n c.loop-m.m
      (g.P.Pairs.pairs c.loop-m.eq) (g.P.Pairs.pairs c.join_one.new.eq) c.loop-m-test.true c.in_ok-join_one.ensures.0 c.loop-m.invariant.0,
  joined_more (WantsShare c.args.a.now c.args.b.now c.args.pairs.now c.args.cells.now) c.args.n c.loop-m.m
      (g.P.Pairs.pairs c.loop-m.shared) (g.P.Pairs.pairs c.join_one.new.shared) c.loop-m-test.true c.in_ok-join_one.ensures.1
      c.loop-m.invariant.1,
)

pub returns : goal.returns
returns g c = (
  joined_row (WantsOne c.args.a.now c.args.b.now c.args.pairs.now c.args.cells.now) c.args.n c.loop-m.m
      (g.P.Pairs.pairs c.loop-m.eq) c.loop-m-test.false c.loop-m.invariant.0,
  joined_row (WantsShare c.args.a.now c.args.b.now c.args.pairs.now c.args.cells.now) c.args.n c.loop-m.m
      (g.P.Pairs.pairs c.loop-m.shared) c.loop-m-test.false c.loop-m.invariant.1,
)
