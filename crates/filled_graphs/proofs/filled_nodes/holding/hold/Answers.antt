use Rattle.filled_graphs.proofs.Putting.{leads_known, next_full, next_leads, ends_full, shorter}
use Rattle.filled_graphs.proofs.filled_nodes.holding.hold.Goals as goal

pub expand_namer-requires-clause-known : goal.expand_namer-requires-clause-known
expand_namer-requires-clause-known g c = leads_known (g.S.PartSource.parts c.args.ground.now.parts.now) c.args.ground.now.origins
    c.args.ground.now.sources c.args.number c.loop-next.at c.in-Some.next c.args.ground.now.known c.loop-next.way.0 c.pop.new.self.0
    c.loop-next.invariant.leads c.in-Some.ensures.items c.requires.known

pub loop-next-smaller : goal.loop-next-smaller
loop-next-smaller g c = shorter c.in-Some.next c.loop-next.way.0 c.pop.new.self.0 c.in-Some.ensures.items

pub loop-next-preserved : goal.loop-next-preserved
loop-next-preserved g c = record {
  full = next_full c.args.ground.now.origins c.expand_namer.new.slots c.args.number c.loop-next.at c.in-Some.next c.loop-next.way.0
      c.pop.new.self.0 c.loop-next.invariant.leads c.in-Some.ensures.items c.in_ok-expand_namer.ensures.full;
  leads = next_leads c.args.ground.now.origins c.args.number c.loop-next.at c.in-Some.next c.loop-next.way.0 c.pop.new.self.0
      c.loop-next.invariant.leads c.in-Some.ensures.items;
  kept = c.in_ok-expand_namer.ensures.kept;
}

pub returns-clause-full : goal.returns-clause-full
returns-clause-full g c = ends_full c.args.ground.now.origins c.loop-next.slots c.args.number c.loop-next.at c.loop-next.way.0
    c.loop-next.invariant.leads c.in_default.ensures.items.0 c.loop-next.invariant.full
