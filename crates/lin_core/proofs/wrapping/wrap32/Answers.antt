use Rattle.std.proofs.Common.{arith}
use Rattle.std.proofs.lemmas.Int.{ints}
use Rattle.lin_core.proofs.Division.{is_remainder, congruent_low, congruent_high, wrap_low, wrap_high}
use Rattle.lin_core.proofs.wrapping.wrap32.Goals as goal

pub returns-then-low : goal.returns-then-low
returns-then-low c =
    let h = is_remainder c.args.n c.rem_euclid-low.result c.ranges.n c.rem_euclid-low.ensures.value in
    record {
      congruent = congruent_low c.args.n c.rem_euclid-low.result h (omega (arith, ints));
      value = wrap_low c.args.n c.rem_euclid-low.result h (omega (arith, ints));
    }

pub returns-else-low : goal.returns-else-low
returns-else-low c =
    let h = is_remainder c.args.n c.rem_euclid-low.result c.ranges.n c.rem_euclid-low.ensures.value in
    record {
      congruent = congruent_high c.args.n c.rem_euclid-low.result h (omega (arith, ints));
      value = wrap_high c.args.n c.rem_euclid-low.result h (omega (arith, ints));
    }
