use Rattle.std.proofs.Common.{◌≡◌, length}
use Rattle.asm_lines.specs.Statements.{flag_words}
use Rattle.asm_lines.proofs.statement.flag_words.Given as goal

abbrev pub invariant-loop-word : goal.invariant-loop-word
invariant-loop-word l = flag_words l.line l.flags l.rest ≡ flag_words l.line 0 l.fn.words

abbrev pub decreases-loop-word : goal.decreases-loop-word
decreases-loop-word l = length l.rest
