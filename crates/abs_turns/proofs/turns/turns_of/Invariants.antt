use Rattle.std.proofs.Common.{◌≡◌, ◌++◌, map, length, true}
use Rattle.std.specs.List.{filter_map}
use Rattle.abs_turns.specs.Turns.{with_stack, turn_of_case, turns_of}
use Rattle.abs_turns.specs.ShortRows.{have_short_rows}
use Rattle.abs_turns.specs.OperandsSeen.{operand_seen}
use Rattle.abs_turns.specs.PlansSeen.{goal_seen, turn_seen}
use Rattle.abs_turns.proofs.turns.turns_of.Given as goal

abbrev pub invariant-loop-case : goal.invariant-loop-case
invariant-loop-case g l = record {
  so_far : map turn_seen l.turns ++ filter_map
      (turn_of_case l.spot (operand_seen l.left) (operand_seen l.right) (with_stack l.spot l.spot.next l.stack.0)
      (goal_seen l.goal)) l.cases ≡ turns_of l.spot l.fn.op (operand_seen l.left) (operand_seen l.right)
      (with_stack l.spot l.spot.next l.stack.0) (goal_seen l.goal);
  short : have_short_rows (operand_seen l.left) (operand_seen l.right) l.cases ≡ true;
}

abbrev pub decreases-loop-case : goal.decreases-loop-case
decreases-loop-case g l = length l.cases
