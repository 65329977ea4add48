use Rattle.std.proofs.Common.{◌≡◌, drop}
use Rattle.class_asm.specs.asm_codes.Instructions.{cases_of}
use Rattle.class_asm.specs.asm_codes.Places.{place_in}
use Rattle.class_asm.proofs.KeyCases.{with_front}
use Rattle.class_asm.proofs.asm_codes.instruction.cases_of.Given as goal

abbrev pub invariant-loop-word : goal.invariant-loop-word
invariant-loop-word l = with_front l.cases (cases_of (place_in l.labels) (drop l.word-index l.words)) ≡ cases_of (place_in l.labels)
    l.words
