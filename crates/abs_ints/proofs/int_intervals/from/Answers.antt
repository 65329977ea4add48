use Rattle.std.proofs.Common.{arith}
use Rattle.std.specs.Int.{int_max}
use Rattle.std.proofs.lemmas.Int.{ints, clamps}
use Rattle.abs_ints.proofs.Making.{made}
use Rattle.abs_ints.proofs.int_intervals.from.Goals as goal

pub returns : goal.returns
returns c = made c.new.result c.max.result c.hi.result (int_max c.args.a.lo c.args.b.lo) c.args.a.hi c.new.ensures
    (omega (arith, ints, clamps)) (omega (arith, ints, clamps))
