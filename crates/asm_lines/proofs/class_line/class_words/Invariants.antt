use Rattle.std.proofs.Common.{◌≡◌, length}
use Rattle.asm_lines.specs.declared.class_line.Expected.TheVariants.{Any}
use Rattle.asm_lines.specs.ClassLines.{class_words}
use Rattle.asm_lines.proofs.class_line.class_words.Given as goal

abbrev pub invariant-loop-word : goal.invariant-loop-word
invariant-loop-word l = class_words l.line l.expected l.class l.rest ≡ class_words l.line Any l.initial.class l.fn.words

abbrev pub decreases-loop-word : goal.decreases-loop-word
decreases-loop-word l = length l.rest
