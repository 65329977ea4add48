use Rattle.class_asm.specs.asm_codes.Places.{place_in}
use Rattle.class_asm.specs.asm_codes.LineFaults.{is_among}
use Rattle.class_asm.proofs.FirstFaults.{SoFar}
use Rattle.class_asm.proofs.asm_codes.line_fault.first_fault_seen.Given as goal

abbrev pub invariant-loop-line : goal.invariant-loop-line
invariant-loop-line l = SoFar (place_in l.labels) l.lines l.line-index (is_among l.seen) l.entries l.pc
