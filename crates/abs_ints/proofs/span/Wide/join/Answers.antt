use Rattle.std.proofs.Common.{ap, arith}
use Rattle.std.specs.Int.{int_min, int_max}
use Rattle.std.proofs.lemmas.Int.{ints, clamps}
use Rattle.lin_core.specs.Intervals.{Bounds}
use Rattle.abs_ints.proofs.Making.{ends_are}
use Rattle.abs_ints.proofs.span.Wide.join.Goals as goal

pub returns : goal.returns
returns c =
    let l = ap (λ (x : Bounds). x.lo) c.self.view_is in
    let h = ap (λ (x : Bounds). x.hi) c.self.view_is in
    let m = ap (λ (x : Bounds). x.lo) c.other.view_is in
    let k = ap (λ (x : Bounds). x.hi) c.other.view_is in
    ends_are _ _ (int_min c.args.self.lo c.args.other.lo) (int_max c.args.self.hi c.args.other.hi) (omega (arith, ints, clamps))
    (omega (arith, ints, clamps))
