use Rattle.std.proofs.Common.{◌≡◌, take}
use Rattle.class_asm.proofs.asm_pool.pool.entries_of.Given as goal

abbrev pub invariant-loop-place : goal.invariant-loop-place
invariant-loop-place l = l.list.items ≡ take l.place l.lines.entries
