use Rattle.std.proofs.Common.{◌≤◌, length, drop}
use Rattle.path_rules.proofs.Adding.{AreAdded}
use Rattle.path_rules.proofs.sizes.added.Given as goal

abbrev pub invariant-loop-left : goal.invariant-loop-left
invariant-loop-left l = record {
  within : l.left ≤ length l.names;
  made : AreAdded l.number (drop l.left l.names) l.sum;
}

abbrev pub decreases-loop-left : goal.decreases-loop-left
decreases-loop-left l = l.left
