use Rattle.jvm_values.proofs.IntLaws.{shift_left_is}
use Rattle.jvm_values.proofs.ints.shifted_left.Goals as goal

pub returns : goal.returns
returns c = shift_left_is c.args.left c.args.right c.wrapping_shl.result c.cast_unsigned.result c.ranges.left c.ranges.right
    c.cast_unsigned.ensures c.wrapping_shl.ensures
