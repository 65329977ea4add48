use Rattle.std.proofs.Common.{arith, sym, subst, ℤ, FitsSigned, w64}
use Rattle.std.proofs.lemmas.Int.{ints}
use Rattle.abs_ints.proofs.Making.{product_made, product_fits, factors_are}
use Rattle.abs_ints.proofs.span.product.Goals as goal

pub overflow_mul-result : goal.overflow_mul-result
overflow_mul-result c =
    subst (λ (z : ℤ). FitsSigned w64 z)
    (sym (factors_are c.from.result c.from-2.result c.args.x c.args.y (omega (arith, ints)) (omega (arith, ints)) c.ranges.x
    c.ranges.y)) (product_fits c.args.x c.args.y c.ranges.x c.ranges.y)

pub returns : goal.returns
returns c = product_made c.from.result c.from-2.result c.args.x c.args.y (omega (arith, ints)) (omega (arith, ints)) c.ranges.x c.ranges.y
