use Rattle.std.proofs.Common.{◌≡◌, take}
use Rattle.asm_lines.proofs.operation.copies.Given as goal

abbrev pub invariant-loop-word : goal.invariant-loop-word
invariant-loop-word l = l.all ≡ take l.word-index l.words
