use Rattle.std.proofs.Common.{ap, to_z, of_z, w64, arith}
use Rattle.std.specs.Int.{int_min, int_max}
use Rattle.std.proofs.lemmas.Int.{ints, clamps}
use Rattle.lin_core.specs.Intervals.{Bounds}
use Rattle.abs_ints.proofs.Making.{some_is, none_is}
use Rattle.abs_ints.proofs.span.Span.meet.Goals as goal

pub returns-then-lo-hi : goal.returns-then-lo-hi
returns-then-lo-hi c =
    let l = ap (λ (x : Bounds). x.lo) c.self.view_is in
    let h = ap (λ (x : Bounds). x.hi) c.self.view_is in
    let m = ap (λ (x : Bounds). x.lo) c.other.view_is in
    let k = ap (λ (x : Bounds). x.hi) c.other.view_is in
    some_is (to_z w64 (of_z w64 c.max-lo.result)) (to_z w64 (of_z w64 c.min-hi.result)) (int_max c.args.self.lo c.args.other.lo)
    (int_min c.args.self.hi c.args.other.hi) (omega (arith, ints, clamps)) (omega (arith, ints, clamps)) (omega (arith, ints, clamps))

pub returns-else-lo-hi : goal.returns-else-lo-hi
returns-else-lo-hi c =
    let l = ap (λ (x : Bounds). x.lo) c.self.view_is in
    let h = ap (λ (x : Bounds). x.hi) c.self.view_is in
    let m = ap (λ (x : Bounds). x.lo) c.other.view_is in
    let k = ap (λ (x : Bounds). x.hi) c.other.view_is in
    none_is (int_max c.args.self.lo c.args.other.lo) (int_min c.args.self.hi c.args.other.hi) (omega (arith, ints, clamps))
