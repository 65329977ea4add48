use Rattle.std.proofs.Common.{length}
use Rattle.filled_graphs.specs.filled_nodes.inner.Slots.{IsFull, Leads}
use Rattle.filled_graphs.specs.filled_nodes.Holding.{AreKept}
use Rattle.filled_graphs.proofs.filled_nodes.holding.hold.Given as goal

abbrev pub invariant-loop-next : goal.invariant-loop-next
invariant-loop-next g l = record {
  full : IsFull l.slots l.at;
  leads : Leads l.ground.origins l.number l.at l.way.0;
  kept : AreKept (g.E.Expands.rules l.ground.expander) (g.S.PartSource.parts l.ground.parts.now) l.ground.filling.0 l.slots;
}

abbrev pub decreases-loop-next : goal.decreases-loop-next
decreases-loop-next g l = length l.way.0
