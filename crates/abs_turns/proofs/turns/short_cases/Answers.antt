use Rattle.std.proofs.Common.{◌∙◌, ap}
use Rattle.abs_turns.specs.OperandsSeen.{operand_seen}
use Rattle.abs_turns.specs.ShortRows.{have_short_rows}
use Rattle.abs_turns.proofs.ShortRows.{taken_short}
use Rattle.abs_turns.proofs.turns.short_cases.Goals as goal

pub returns-clause-short : goal.returns-clause-short
returns-clause-short c =
    ap (have_short_rows (operand_seen c.args.left) (operand_seen c.args.right)) c.operate.ensures.table
    ∙ taken_short (operand_seen c.args.left) (operand_seen c.args.right) c.args.op c.args.left_ints c.args.right_ints c.requires
