use Rattle.std.proofs.Common.{◌≡◌, drop}
use Rattle.class_asm.specs.asm_codes.LineFaults.{knows}
use Rattle.class_asm.specs.asm_codes.Places.{place_in}
use Rattle.class_asm.proofs.asm_codes.line_fault.knows_words.Given as goal

abbrev pub invariant-loop-word : goal.invariant-loop-word
invariant-loop-word l = knows (place_in l.labels) (drop l.word-index l.words) ≡ knows (place_in l.labels) l.words
