use Rattle.std.proofs.Common.{◌≡◌, drop}
use Rattle.std.specs.List.{list_all}
use Rattle.class_asm.specs.asm_codes.LineFaults.{is_far}
use Rattle.class_asm.specs.asm_codes.Places.{place_in}
use Rattle.class_asm.proofs.asm_codes.line_fault.all_far.Given as goal

abbrev pub invariant-loop-word : goal.invariant-loop-word
invariant-loop-word l = list_all (is_far (place_in l.labels) l.pc) (drop l.word-index l.words) ≡ list_all
    (is_far (place_in l.labels) l.pc) l.words
