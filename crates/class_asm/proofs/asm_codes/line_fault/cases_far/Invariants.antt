use Rattle.std.proofs.Common.{◌≡◌, drop}
use Rattle.std.specs.List.{list_all}
use Rattle.class_asm.specs.asm_codes.LineFaults.{is_far}
use Rattle.class_asm.specs.asm_codes.Places.{place_in}
use Rattle.class_asm.proofs.asm_codes.line_fault.cases_far.Given as goal

abbrev pub invariant-loop-case : goal.invariant-loop-case
invariant-loop-case l = list_all (λ c. is_far (place_in l.labels) l.pc c.1) (drop l.case-index l.cases) ≡ list_all
    (λ c. is_far (place_in l.labels) l.pc c.1) l.cases
