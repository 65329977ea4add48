use Rattle.std.proofs.Common.{◌≡◌, ◌++◌, map, length}
use Rattle.std.specs.List.{filter_map}
use Rattle.abs_turns.specs.Turns.{branch_of_case, branches}
use Rattle.abs_turns.specs.OperandsSeen.{operand_seen}
use Rattle.abs_turns.specs.PlansSeen.{turn_seen}
use Rattle.abs_turns.proofs.turns.branches.Given as goal

abbrev pub invariant-loop-case : goal.invariant-loop-case
invariant-loop-case g l = map turn_seen l.turns ++ filter_map
    (branch_of_case l.spot (operand_seen l.left) (operand_seen l.right) l.place l.stack.0 l.with_rows) l.cases ≡ branches l.spot
    l.fn.cond (operand_seen l.left) (operand_seen l.right) l.place l.stack.0 l.with_rows

abbrev pub decreases-loop-case : goal.decreases-loop-case
decreases-loop-case g l = length l.cases
