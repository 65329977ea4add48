use Rattle.std.proofs.Common.{arith}
use Rattle.class_calls.specs.command_rows.Rows.{from_to}
use Rattle.class_calls.proofs.Numbers.{out_of_range}
use Rattle.class_calls.proofs.command_rows.words.number_in.Goals as goal

pub returns-then-number-least : goal.returns-then-number-least
returns-then-number-least c =
    let wide = c.ranges.most in
    out_of_range (from_to c.args.least c.args.most) c.args.word.now c.in_ok-number.number (omega (arith, wide))
    c.in_ok-number.ensures.1 c.in_ok-number.ensures.0
    (λ some few. omega (arith, some, c.if-number-least.true))

pub returns-then-number-most : goal.returns-then-number-most
returns-then-number-most c =
    let wide = c.ranges.most in
    out_of_range (from_to c.args.least c.args.most) c.args.word.now c.in_ok-number.number (omega (arith, wide))
    c.in_ok-number.ensures.1 c.in_ok-number.ensures.0
    (λ some few. omega (arith, few, c.if-number-most.true))
