use Rattle.std.proofs.Common.{◌≡◌, take, map}
use Rattle.class_asm.specs.Classes.{pooled}
use Rattle.class_asm.proofs.codes.pooled_lines.Given as goal

abbrev pub invariant-loop-code : goal.invariant-loop-code
invariant-loop-code l = l.all ≡ map (pooled l.pool) (take l.code-index l.lines)
