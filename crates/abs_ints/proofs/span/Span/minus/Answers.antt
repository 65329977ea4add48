use Rattle.std.proofs.Common.{◌-ℤ◌, ap, arith}
use Rattle.std.proofs.lemmas.Int.{ints}
use Rattle.lin_core.specs.Intervals.{Bounds}
use Rattle.abs_ints.proofs.Making.{ends_are}
use Rattle.abs_ints.proofs.span.Span.minus.Goals as goal

pub returns : goal.returns
returns c =
    let l = ap (λ (x : Bounds). x.lo) c.self.view_is in
    let h = ap (λ (x : Bounds). x.hi) c.self.view_is in
    let m = ap (λ (x : Bounds). x.lo) c.other.view_is in
    let k = ap (λ (x : Bounds). x.hi) c.other.view_is in
    let i = c.self.invariant in
    let j = c.other.invariant in
    ends_are _ _ (c.args.self.lo -ℤ c.args.other.hi) (c.args.self.hi -ℤ c.args.other.lo) (omega (arith, ints)) (omega (arith, ints))
