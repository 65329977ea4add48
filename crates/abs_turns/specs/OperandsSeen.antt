-- Operands of the code, seen as the definitions' operands.
use Rattle.abs_turns.specs.declared.operands.Operand.{Operand as OperandSeen}
use Rattle.abs_turns.specs.declared.operands.Operand.TheVariants as operands
use Rattle.abs_turns.specs.Turns.{Operand, known, id}

-- the operand that stands in the code, as an operand of the definitions
abbrev pub operand_seen : OperandSeen → Operand
operand_seen (operands.Known n) = known n
operand_seen (operands.Id x) = id x
