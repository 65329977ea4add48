use Rattle.std.proofs.Common.{arith}
use Rattle.filled_graphs.proofs.Putting.{begins, goes_up, lower}
use Rattle.filled_graphs.proofs.filled_nodes.holding.way_up.Goals as goal

pub loop-above-init : goal.loop-above-init
loop-above-init g c = record {
  there = c.requires.there;
  leads = begins c.args.ground.now.origins c.args.number c.args.way.now.0 c.requires.empty;
  from = c.in_ok-above.ensures.named;
  kept = c.in_ok-above.ensures.kept;
}

pub loop-above-smaller : goal.loop-above-smaller
loop-above-smaller g c = lower (g.S.PartSource.parts c.args.ground.now.parts.now) c.args.ground.now.origins c.args.ground.now.sources
    c.loop-above.slots c.loop-above.at c.in-Some.namer c.loop-above.above c.loop-above.invariant.from c.in-Some.is

pub loop-above-preserved : goal.loop-above-preserved
loop-above-preserved g c = record {
  there = omega (
    arith,
    c.loop-above.invariant.there,
    lower (g.S.PartSource.parts c.args.ground.now.parts.now) c.args.ground.now.origins c.args.ground.now.sources
        c.loop-above.slots c.loop-above.at c.in-Some.namer c.loop-above.above c.loop-above.invariant.from c.in-Some.is,
  );
  leads = goes_up c.args.ground.now.origins c.loop-above.slots c.args.number c.loop-above.at c.in-Some.namer c.loop-above.above
      c.loop-above.way.0 c.push.new.self.0 c.loop-above.invariant.leads c.loop-above.invariant.from c.in-Some.is
      c.in_ok-push.ensures.items;
  from = c.in_ok-above-2.ensures.named;
  kept = c.in_ok-above-2.ensures.kept;
}

pub namer_above-requires-in-Some-clause-there : goal.namer_above-requires-in-Some-clause-there
namer_above-requires-in-Some-clause-there g c = omega (
  arith,
  c.loop-above.invariant.there,
  lower (g.S.PartSource.parts c.args.ground.now.parts.now) c.args.ground.now.origins c.args.ground.now.sources
      c.loop-above.slots c.loop-above.at c.in-Some.namer c.loop-above.above c.loop-above.invariant.from c.in-Some.is,
)
