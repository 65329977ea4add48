use Rattle.std.proofs.Common.{◌≡◌, take, map}
use Rattle.class_asm.specs.asm_codes.Instructions.{target}
use Rattle.class_asm.specs.asm_codes.Places.{place_in}
use Rattle.class_asm.proofs.asm_codes.instruction.targets.Given as goal

abbrev pub invariant-loop-word : goal.invariant-loop-word
invariant-loop-word l = l.targets ≡ map (target (place_in l.labels)) (take l.word-index l.words)
