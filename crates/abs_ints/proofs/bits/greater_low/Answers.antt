use Rattle.std.proofs.Common.{arith}
use Rattle.std.proofs.lemmas.Int.{ints, clamps}
use Rattle.abs_ints.proofs.bits.greater_low.Goals as goal

pub returns : goal.returns
returns c = omega (arith, ints, clamps)
