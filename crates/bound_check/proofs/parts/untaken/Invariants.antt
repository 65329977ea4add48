use Rattle.std.proofs.Common.{◌≤◌, length}
use Rattle.bound_check.proofs.Counting.{AreCounted}
use Rattle.bound_check.proofs.parts.untaken.Given as goal

abbrev pub decreases-loop-left : goal.decreases-loop-left
decreases-loop-left l = l.left

abbrev pub invariant-loop-left : goal.invariant-loop-left
invariant-loop-left l = record {
  few : l.left ≤ length l.steps;
  counted : AreCounted l.steps l.left l.counts.items;
}
