use Rattle.std.proofs.Common.{get_or}
use Rattle.path_rules.proofs.Picking.{IsOnWay}
use Rattle.path_rules.proofs.ways.way_of.Given as goal

abbrev pub invariant-loop-place : goal.invariant-loop-place
invariant-loop-place l = IsOnWay l.ways.lists l.ways.marks l.from l.number l.places l.node l.left

abbrev pub decreases-loop-place : goal.decreases-loop-place
decreases-loop-place l = get_or l.ways.ranks l.node 0
