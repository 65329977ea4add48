use Rattle.std.proofs.Common.{arith}
use Rattle.filled_graphs.proofs.Knowing.{grown, grown_kept}
use Rattle.filled_graphs.proofs.filled_nodes.ground.Ground.grow.Goals as goal

pub invariant_of-self : goal.invariant_of-self
invariant_of-self g c = record {
  filling = (grown (g.E.Expands.rules c.args.self.now.expander) (g.S.PartSource.parts c.args.self.now.parts.now) c.args.self.now.known
      c.args.self.now.filling.0 c.args.slots.now c.args.self.now.filling.1 c.requires.there c.requires.full c.requires.kept).filling;
  sources = c.args.self.now.sources;
  few = omega (arith, c.requires.there);
}

pub returns-clause-kept : goal.returns-clause-kept
returns-clause-kept g c = grown_kept (g.E.Expands.rules c.args.self.now.expander) (g.S.PartSource.parts c.args.self.now.parts.now)
    c.args.self.now.known c.args.self.now.filling.0 c.args.slots.now c.args.self.now.filling.1 c.requires.there c.requires.full
    c.requires.kept c.self-1.given.0
