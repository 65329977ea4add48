use Rattle.std.proofs.Common.{arith}
use Rattle.filled_graphs.proofs.Knowing.{none_known}
use Rattle.filled_graphs.proofs.filled_nodes.ground.Ground.new.Goals as goal

pub invariant_of-result : goal.invariant_of-result
invariant_of-result g c = record {
  filling = none_known (g.E.Expands.rules c.args.expander) (g.S.PartSource.parts c.args.parts.now);
  sources = ∣ c.in_ok-origins.ensures ∣₁;
  few = omega arith;
}
