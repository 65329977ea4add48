use Rattle.std.proofs.Common.{to_z, of_z, w64, arith}
use Rattle.std.specs.Int.{int_min, int_max}
use Rattle.std.proofs.lemmas.Int.{ints, clamps}
use Rattle.abs_ints.proofs.Making.{made, none_is}
use Rattle.abs_turns.proofs.switches.part_of.Goals as goal

pub returns-then-lo-hi : goal.returns-then-lo-hi
returns-then-lo-hi c = made c.new.result (to_z w64 (of_z w64 c.max-lo.result)) (to_z w64 (of_z w64 c.min-hi.result))
    (int_max c.args.ints.lo c.args.low.now) (int_min c.args.ints.hi c.args.high.now) c.new.ensures (omega (arith, ints, clamps))
    (omega (arith, ints, clamps))

pub returns-else-lo-hi : goal.returns-else-lo-hi
returns-else-lo-hi c = none_is (int_max c.args.ints.lo c.args.low.now) (int_min c.args.ints.hi c.args.high.now)
    (omega (arith, ints, clamps))
