use Rattle.std.proofs.Common.{◌≡◌}
use Rattle.filled_graphs.specs.filled_nodes.Holding.{AreKept}
use Rattle.filled_graphs.proofs.filled_nodes.filled.know_all.Given as goal

abbrev pub invariant-loop-number : goal.invariant-loop-number
invariant-loop-number g l = record {
  known : l.ground.known ≡ l.number;
  parts : l.ground.parts.now ≡ l.initial.ground.parts.now;
  expander : l.ground.expander ≡ l.initial.ground.expander;
  kept : AreKept (g.E.Expands.rules l.ground.expander) (g.S.PartSource.parts l.ground.parts.now) l.ground.filling.0 l.slots;
}
