use Rattle.std.proofs.Common.{◌≡◌, ◌*ℤ◌, FitsSigned, w64, arith, rules}
use Rattle.std.specs.Int.{int_min, int_max}
use Rattle.std.proofs.lemmas.Int.{ints}
use Rattle.abs_ints.proofs.Making.{times_is, lesser_is, greater_is, ends_are}
use Rattle.abs_ints.proofs.span.Wide.multiples_by_hi.Goals as goal

pub returns : goal.returns
returns c =
    let low : c.product-low.result ≡ c.args.a.hi *ℤ c.args.b.lo = times_is c.product-low.result c.hi.result c.lo.result c.args.a.hi
    c.args.b.lo c.product-low.ensures (omega (arith, ints)) (omega (arith, ints)) in
    let high : c.product-high.result ≡ c.args.a.hi *ℤ c.args.b.hi = times_is c.product-high.result c.hi-2.result c.hi-3.result
    c.args.a.hi c.args.b.hi c.product-high.ensures (omega (arith, ints)) (omega (arith, ints)) in
    let f : FitsSigned w64 c.product-low.result = record { sfits = c.product-low.type_inv } in
    let g : FitsSigned w64 c.product-high.result = record { sfits = c.product-high.type_inv } in
    let h : FitsSigned w64 c.min.result = record { sfits = c.min.type_inv } in
    let k : FitsSigned w64 c.max.result = record { sfits = c.max.type_inv } in
    ends_are _ _ (int_min (c.args.a.hi *ℤ c.args.b.lo) (c.args.a.hi *ℤ c.args.b.hi))
    (int_max (c.args.a.hi *ℤ c.args.b.lo) (c.args.a.hi *ℤ c.args.b.hi))
    (lesser_is c.min.result c.product-low.result c.product-high.result (c.args.a.hi *ℤ c.args.b.lo) (c.args.a.hi *ℤ c.args.b.hi)
    c.min.ensures.value h f g low high)
    (greater_is c.max.result c.product-low.result c.product-high.result (c.args.a.hi *ℤ c.args.b.lo)
    (c.args.a.hi *ℤ c.args.b.hi) c.max.ensures.value k f g low high)
