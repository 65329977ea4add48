use Rattle.std.proofs.Common.{◌≡◌, drop, map}
use Rattle.class_asm.specs.asm_codes.LineFaults.{knows}
use Rattle.class_asm.specs.asm_codes.Places.{place_in}
use Rattle.class_asm.proofs.asm_codes.line_fault.knows_cases.Given as goal

abbrev pub invariant-loop-case : goal.invariant-loop-case
invariant-loop-case l = knows (place_in l.labels) (map (λ c. c.1) (drop l.case-index l.cases)) ≡ knows (place_in l.labels)
    (map (λ c. c.1) l.cases)
