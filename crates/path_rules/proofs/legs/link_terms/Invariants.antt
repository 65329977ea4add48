use Rattle.std.proofs.Common.{◌≤◌, length, drop}
use Rattle.path_rules.proofs.Collecting.{AreCollected}
use Rattle.path_rules.proofs.legs.link_terms.Given as goal

abbrev pub invariant-loop-left : goal.invariant-loop-left
invariant-loop-left g l = record {
  within : l.left ≤ length l.terms;
  made : AreCollected l.stop.first l.stop.node.state l.after.first l.after.node.state (drop l.left l.terms) l.sum;
}

abbrev pub decreases-loop-left : goal.decreases-loop-left
decreases-loop-left g l = l.left
