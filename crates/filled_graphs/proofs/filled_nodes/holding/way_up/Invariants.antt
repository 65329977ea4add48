use Rattle.std.proofs.Common.{◌<◌, length}
use Rattle.filled_graphs.specs.filled_nodes.Holding.{AreKept}
use Rattle.filled_graphs.specs.filled_nodes.inner.Slots.{Leads, IsFullOrNamed}
use Rattle.filled_graphs.proofs.filled_nodes.holding.way_up.Given as goal

abbrev pub invariant-loop-above : goal.invariant-loop-above
invariant-loop-above g l = record {
  there : l.at < length (g.S.PartSource.parts l.ground.parts.now);
  leads : Leads l.ground.origins l.number l.at l.way.0;
  from : IsFullOrNamed l.ground.origins l.slots l.at l.above;
  kept : AreKept (g.E.Expands.rules l.ground.expander) (g.S.PartSource.parts l.ground.parts.now) l.ground.filling.0 l.slots;
}

abbrev pub decreases-loop-above : goal.decreases-loop-above
decreases-loop-above g l = l.at
