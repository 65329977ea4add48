use Rattle.std.proofs.Common.{◌≡◌, ◌++◌, length, true}
use Rattle.abs_plans.specs.abs_turns.Turns.{rows_over}
use Rattle.abs_plans.specs.abs_turns.ShortRows.{are_short}
use Rattle.abs_plans.specs.abs_turns.OperandsSeen.{operand_seen}
use Rattle.abs_expand.proofs.children.rows_over.Given as goal

abbrev pub invariant-loop-row : goal.invariant-loop-row
invariant-loop-row l = record {
  so_far : l.made ++ rows_over (operand_seen l.left) (operand_seen l.right) l.short l.fresh
      ≡ rows_over (operand_seen l.left) (operand_seen l.right) l.fn.short l.fresh;
  are_short : are_short (operand_seen l.left) (operand_seen l.right) l.short ≡ true;
}

abbrev pub decreases-loop-row : goal.decreases-loop-row
decreases-loop-row l = length l.short
