use Rattle.std.proofs.Common.{◌≡◌, drop}
use Rattle.std.specs.Prelude.{nat_le}
use Rattle.class_asm.specs.Classes.{attributes_size}
use Rattle.class_asm.proofs.codes.attributes_fit.Given as goal

abbrev pub invariant-loop-a : goal.invariant-loop-a
invariant-loop-a l = nat_le (attributes_size (drop l.a-index l.attributes)) l.left ≡ nat_le (attributes_size l.attributes) l.fn.left
