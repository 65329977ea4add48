use Rattle.std.proofs.Common.{◌≡◌, drop}
use Rattle.class_asm.specs.asm_codes.Places.{place_in, place_from}
use Rattle.class_asm.proofs.Marks.{followed}
use Rattle.class_asm.proofs.asm_codes.places.put_places.Given as goal

abbrev pub invariant-loop-line : goal.invariant-loop-line
invariant-loop-line l = followed (place_in l.labels) (place_from l.pc (drop l.line-index l.lines)) ≡ place_from 0 l.lines
