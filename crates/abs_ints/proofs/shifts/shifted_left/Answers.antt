use Rattle.std.proofs.Common.{◌≡◌, ℕ, ℤ, pos, ◌^◌, ◌*ℤ◌, ◌∙◌, ap, FitsSigned, to_z, of_z, w32, w64, arith}
use Rattle.std.specs.Int.{int_min, int_max}
use Rattle.std.proofs.lemmas.Int.{ints}
use Rattle.abs_ints.specs.Shifts.{power_of}
use Rattle.abs_ints.proofs.Making.{lesser_is, greater_is, ends_are}
use Rattle.abs_ints.proofs.shifts.shifted_left.Goals as goal

pub returns : goal.returns
returns c =
    let plain_lo : to_z w32 (of_z w32 c.lo.result) ≡ c.args.a.lo = omega (arith, ints) in
    let plain_hi : to_z w32 (of_z w32 c.hi.result) ≡ c.args.a.hi = omega (arith, ints) in
    let low : c.times_power-low.result ≡ power_of c.args.b *ℤ c.args.a.lo = c.times_power-low.ensures
    ∙ ap (λ (k : ℕ). pos (2 ^ k) *ℤ to_z w32 (of_z w32 c.lo.result)) c.count-count.ensures.value
    ∙ ap (λ (z : ℤ). power_of c.args.b *ℤ z) plain_lo in
    let high : c.times_power-high.result ≡ power_of c.args.b *ℤ c.args.a.hi = c.times_power-high.ensures
    ∙ ap (λ (k : ℕ). pos (2 ^ k) *ℤ to_z w32 (of_z w32 c.hi.result)) c.count-count.ensures.value
    ∙ ap (λ (z : ℤ). power_of c.args.b *ℤ z) plain_hi in
    let f : FitsSigned w64 c.times_power-low.result = record { sfits = c.times_power-low.type_inv } in
    let g : FitsSigned w64 c.times_power-high.result = record { sfits = c.times_power-high.type_inv } in
    let h : FitsSigned w64 c.min.result = record { sfits = c.min.type_inv } in
    let k : FitsSigned w64 c.max.result = record { sfits = c.max.type_inv } in
    let x : ℤ = power_of c.args.b *ℤ c.args.a.lo in
    let y : ℤ = power_of c.args.b *ℤ c.args.a.hi in
    c.new.ensures ∙ ends_are (to_z w64 (of_z w64 c.min.result)) (to_z w64 (of_z w64 c.max.result)) (int_min x y) (int_max x y)
    (lesser_is c.min.result c.times_power-low.result c.times_power-high.result x y c.min.ensures.value h f g low high)
    (greater_is c.max.result c.times_power-low.result c.times_power-high.result x y c.max.ensures.value k f g low high)
