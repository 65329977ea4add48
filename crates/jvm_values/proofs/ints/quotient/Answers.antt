use Rattle.std.proofs.Common.{rules}
use Rattle.jvm_values.proofs.IntLaws.{quotient_is, given_quotient}
use Rattle.jvm_values.proofs.ints.quotient.Goals as goal

pub returns-else-right-eq0 : goal.returns-else-right-eq0
returns-else-right-eq0 c = given_quotient c.args.left c.args.right _ c.if-right-eq0.false
    (quotient_is c.args.left c.args.right c.wrapping_div.result c.ranges.left c.ranges.right (search rules) c.wrapping_div.ensures)
