use Rattle.std.proofs.Common.{◌-◌, ◌+◌, ◌≤◌, length}
use Rattle.abs_heap.proofs.Freshness.{AreFound}
use Rattle.abs_heap.proofs.fresh.fresh_ids.Given as goal

abbrev pub invariant-loop-cells : goal.invariant-loop-cells
invariant-loop-cells g l = AreFound l.cells l.ids l.passed l.next × (length l.ids ≤ l.count)

abbrev pub decreases-loop-cells : goal.decreases-loop-cells
decreases-loop-cells g l = (length l.cells + l.count) - l.next
