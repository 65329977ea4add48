use Rattle.std.proofs.Common.{arith}
use Rattle.filled_graphs.proofs.Putting.{next_put, all_put}
use Rattle.filled_graphs.proofs.filled_nodes.holding.put_children.Goals as goal

pub loop-place-init : goal.loop-place-init
loop-place-init g c = record {
  full = λ k n low at is. absurd (omega (arith, low));
  keeps = λ n full. full;
  kept = c.requires.kept;
}

pub loop-place-preserved : goal.loop-place-preserved
loop-place-preserved g c = record {
  full = next_put c.args.ground.now.origins c.args.named.now c.loop-place.slots c.put_wanted.new.slots c.args.namer c.loop-place.place _
      c.loop-place-test.true c.loop-place.invariant.full c.in_ok-put_wanted.ensures.keeps c.in_ok-put_wanted.ensures.full;
  keeps = λ n full. c.in_ok-put_wanted.ensures.keeps n (c.loop-place.invariant.keeps n full);
  kept = c.in_ok-put_wanted.ensures.kept;
}

pub returns-clause-full : goal.returns-clause-full
returns-clause-full g c = all_put c.args.ground.now.origins c.args.named.now c.loop-place.slots c.args.namer c.loop-place.place
    c.loop-place-test.false c.loop-place.invariant.full
