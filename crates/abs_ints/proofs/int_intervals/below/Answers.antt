use Rattle.std.proofs.Common.{◌-ℤ◌, pos, arith}
use Rattle.std.specs.Int.{int_min}
use Rattle.std.proofs.lemmas.Int.{ints, clamps}
use Rattle.abs_ints.proofs.Making.{made}
use Rattle.abs_ints.proofs.int_intervals.below.Goals as goal

pub returns : goal.returns
returns c = made c.new.result c.lo.result c.min.result c.args.a.lo (int_min c.args.a.hi (c.args.b.hi -ℤ pos 1)) c.new.ensures
    (omega (arith, ints, clamps)) (omega (arith, ints, clamps, c.in_ok-limit.ensures))
