use Rattle.class_asm.specs.asm_codes.Places.{place_in}
use Rattle.class_asm.proofs.Written.{AtByte}
use Rattle.class_asm.proofs.asm_codes.code.bytes_of.Given as goal

abbrev pub invariant-loop-line : goal.invariant-loop-line
invariant-loop-line l = AtByte (place_in l.labels) l.lines l.line-index l.out.items
