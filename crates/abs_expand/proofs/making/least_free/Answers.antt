use Rattle.std.proofs.Common.{◌∙◌, arith}
use Rattle.abs_expand.proofs.CellLists.{counted_more, least_here, least_end}
use Rattle.abs_expand.proofs.making.least_free.Goals as goal

pub returns-then-id-free-clause-is : goal.returns-then-id-free-clause-is
returns-then-id-free-clause-is c =
    least_here c.args.cells.now c.loop-id.id-index c.loop-id.free c.loop-id-item.result c.requires.rising c.loop-id.invariant.at
    c.loop-id-test.true c.loop-id-item.is c.if-id-free.true
    c.loop-id.invariant.counted

pub returns-then-id-free-clause-low : goal.returns-then-id-free-clause-low
returns-then-id-free-clause-low c = omega (arith, c.loop-id.invariant.at, c.loop-id-test.true, c.requires.few)

pub loop-id-preserved : goal.loop-id-preserved
loop-id-preserved c = record {
  at = omega (arith, c.loop-id.invariant.at);
  counted = counted_more c.args.cells.now c.loop-id.id-index c.loop-id-item.result c.loop-id-test.true c.loop-id-item.is
      (c.if-id-free.false ∙ c.loop-id.invariant.at) c.loop-id.invariant.counted;
}

pub returns : goal.returns
returns c = record {
  is = least_end c.args.cells.now c.loop-id.id-index c.loop-id.free c.requires.rising c.loop-id.invariant.at c.loop-id-test.false
      c.loop-id.auto.id-index-end c.loop-id.invariant.counted;
  low = omega (arith, c.loop-id.invariant.at, c.loop-id.auto.id-index-end, c.requires.few);
}
