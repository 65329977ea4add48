-- A line of a method with what it names in the pool.
use Rattle.std.specs.Prelude.{Option}
use Rattle.asm_lines.specs.declared.listing.CodeLine.{CodeLine}
use Rattle.class_asm.specs.declared.asm_codes.pooled.PoolOperand.{PoolOperand}

-- a line of a method, and what it names in the pool; none where that breaks a rule or has no room in the pool
pub record Pooled : Type 0 where
  pub code : CodeLine
  pub need : Option PoolOperand

-- a line of a method together with what it names in the pool
abbrev pub pooled_line : CodeLine → Option PoolOperand → Pooled
pooled_line code need = record { code = code; need = need }
