use Rattle.std.proofs.Common.{◌≡◌, ◌≤◌, length}
use Rattle.abs_turns.specs.Stops.{first_stop}
use Rattle.abs_turns.specs.Table.{types_here}
use Rattle.abs_turns.specs.Needs.{operands_of}
use Rattle.abs_plans.proofs.Taking.{left_of}
use Rattle.abs_plans.proofs.testing.first_stop.Given as goal

abbrev pub invariant-loop-depth : goal.invariant-loop-depth
invariant-loop-depth g l = record {
  places : l.depth ≤ length l.spot.places;
  stack : l.depth ≤ length l.stack.0;
  left : first_stop (types_here l.spot) l.spot.state (left_of l.depth l.spot.places l.stack.0) ≡ first_stop (types_here l.spot)
      l.spot.state (operands_of l.count l.spot.places l.stack.0);
}

abbrev pub decreases-loop-depth : goal.decreases-loop-depth
decreases-loop-depth g l = l.depth
