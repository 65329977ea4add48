use Rattle.std.proofs.Common.{◌≡◌, length}
use Rattle.asm_lines.specs.Operations.{cases_of}
use Rattle.asm_lines.proofs.Cases.{with_front}
use Rattle.asm_lines.proofs.operation.cases_of.Given as goal

abbrev pub invariant-loop-key : goal.invariant-loop-key
invariant-loop-key l = with_front l.cases (cases_of l.line l.rest) ≡ cases_of l.line l.fn.words

abbrev pub decreases-loop-key : goal.decreases-loop-key
decreases-loop-key l = length l.rest
