use Rattle.std.proofs.Common.{arith}
use Rattle.abs_reach.proofs.Keys.{middle_in, found, up_to, from, nowhere}
use Rattle.abs_reach.proofs.find.place_of.Goals as goal

pub returns-then-found-id : goal.returns-then-found-id
returns-then-found-id g c = found c.args.pairs.now c.args.id c.loop-low.low c.loop-low.high c.index-pairs-middle.result c.requires
    c.loop-low-test.true c.loop-low.invariant.end c.if-found-id.true

pub loop-low-preserved-then-found-id-2 : goal.loop-low-preserved-then-found-id-2
loop-low-preserved-then-found-id-2 g c = record {
  order = let h = middle_in c.loop-low.low c.loop-low.high c.loop-low-test.true in omega (arith, h.1);
  end = c.loop-low.invariant.end;
  below = up_to c.args.pairs.now c.args.id c.loop-low.low c.loop-low.high c.index-pairs-middle.result c.requires
      c.loop-low-test.true c.loop-low.invariant.end c.if-found-id-2.true;
  above = c.loop-low.invariant.above;
}

pub loop-low-preserved : goal.loop-low-preserved
loop-low-preserved g c = record {
  order = let h = middle_in c.loop-low.low c.loop-low.high c.loop-low-test.true in h.0;
  end = let h = middle_in c.loop-low.low c.loop-low.high c.loop-low-test.true in omega (arith, h.1, c.loop-low.invariant.end);
  below = c.loop-low.invariant.below;
  above = from c.args.pairs.now c.args.id c.loop-low.low c.loop-low.high c.index-pairs-middle.result c.requires c.loop-low-test.true
      c.loop-low.invariant.end (omega (arith, c.if-found-id.false, c.if-found-id-2.false));
}

pub returns : goal.returns
returns g c = nowhere c.args.pairs.now c.args.id c.loop-low.low c.loop-low.high c.loop-low-test.false c.loop-low.invariant.below
    c.loop-low.invariant.above
