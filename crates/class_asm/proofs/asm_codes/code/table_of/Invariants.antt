use Rattle.std.proofs.Common.{◌≡◌, ◌++◌, drop}
use Rattle.class_asm.specs.asm_codes.Places.{place_in, table_of}
use Rattle.class_asm.proofs.asm_codes.code.table_of.Given as goal

abbrev pub invariant-loop-line : goal.invariant-loop-line
invariant-loop-line l = l.table ++ table_of (place_in l.labels) (drop l.line-index l.lines) ≡ table_of (place_in l.labels) l.lines
