use Rattle.std.proofs.Common.{rules}
use Rattle.jvm_values.proofs.IntLaws.{short_is}
use Rattle.jvm_values.proofs.types.low_short.Goals as goal

pub returns : goal.returns
returns c = short_is c.args.value c.rem_euclid-low.result c.cast_signed.result c.from.result c.ranges.value (search rules)
    (search rules) c.rem_euclid-low.ensures.value c.cast_signed.ensures c.from.ensures
