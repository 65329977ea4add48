-- The laws of the ring of the integers that the library lacks: products over sums, and products of three numbers.
use Rattle.std.proofs.Common.{ℕ, ◌+◌, ◌*◌, ◌≡◌, sym, ap, ◌∙◌, arith, mul_assoc}
use Rattle.std.proofs.Math.Nat.{mul-add, add-mul}
use lib.IntN.{ℤ, ◌+ℤ◌, ◌-ℤ◌, ◌*ℤ◌, neg_ℤ, *ℤ_comm}
use borrow.Author.Differences.{up, down, same_in, sum_is_lem, neg_is, product_is}

spread : (u a b c : ℕ) → u * (a + b + c) ≡ u * a + u * b + u * c
spread u a b c = mul-add u (a + b) c ∙ ap (λ n. n + u * c) (mul-add u a b)

scaled : (u a b c d e f : ℕ) → a + b + c ≡ d + e + f → u * a + u * b + u * c ≡ u * d + u * e + u * f
scaled u a b c d e f h = sym (spread u a b c) ∙ ap (λ n. u * n) h ∙ spread u d e f

-- a (b + c) = a b + a c
pub times_plus : (a b c : ℤ) → a *ℤ (b +ℤ c) ≡ a *ℤ b +ℤ a *ℤ c
times_plus a b c =
    let s = sum_is_lem b c in
    let over = scaled (up a) (up (b +ℤ c)) (down b) (down c) (down (b +ℤ c)) (up b) (up c) s in
    let under = scaled (down a) (up (b +ℤ c)) (down b) (down c) (down (b +ℤ c)) (up b) (up c) s in
    same_in (a *ℤ (b +ℤ c)) (a *ℤ b +ℤ a *ℤ c)
    (omega (arith, over, under, product_is a (b +ℤ c), product_is a b, product_is a c, sum_is_lem (a *ℤ b) (a *ℤ c)))

-- (a + b) c = a c + b c
pub plus_times : (a b c : ℤ) → (a +ℤ b) *ℤ c ≡ a *ℤ c +ℤ b *ℤ c
plus_times a b c =
    *ℤ_comm (a +ℤ b) c ∙ times_plus c a b ∙ ap (λ x. x +ℤ c *ℤ b) (*ℤ_comm c a) ∙ ap (λ x. a *ℤ c +ℤ x) (*ℤ_comm c b)

-- (- a) b = - (a b)
pub neg_times : (a b : ℤ) → neg_ℤ a *ℤ b ≡ neg_ℤ (a *ℤ b)
neg_times a b =
    let n = neg_is a in
    same_in (neg_ℤ a *ℤ b) (neg_ℤ (a *ℤ b))
    (omega (
      arith,
      product_is (neg_ℤ a) b,
      neg_is (a *ℤ b),
      product_is a b,
      ap (λ x. x * up b) n.0,
      ap (λ x. x * down b) n.0,
      ap
          (λ x. x * up b) n.1,
      ap (λ x. x * down b) n.1,
    ))

-- a (- b) = - (a b)
pub times_neg : (a b : ℤ) → a *ℤ neg_ℤ b ≡ neg_ℤ (a *ℤ b)
times_neg a b = *ℤ_comm a (neg_ℤ b) ∙ neg_times b a ∙ ap neg_ℤ (*ℤ_comm b a)

-- a (b - c) = a b - a c
pub times_minus : (a b c : ℤ) → a *ℤ (b -ℤ c) ≡ a *ℤ b -ℤ a *ℤ c
times_minus a b c = times_plus a b (neg_ℤ c) ∙ ap (λ x. a *ℤ b +ℤ x) (times_neg a c)

-- (a b + d e) c, multiplied out from the right
shared : (a b c d e : ℕ) → (a * b + d * e) * c ≡ a * (b * c) + d * (e * c)
shared a b c d e =
    add-mul (a * b) (d * e) c ∙ ap (λ n. n + d * e * c) (mul_assoc a b c) ∙ ap (λ n. a * (b * c) + n) (mul_assoc d e c)

-- a (b c + d e), multiplied out
gathered : (a b c d e : ℕ) → a * (b * c + d * e) ≡ a * (b * c) + a * (d * e)
gathered a b c d e = mul-add a (b * c) (d * e)

-- (a b) c = a (b c)
pub times_assoc : (a b c : ℤ) → a *ℤ b *ℤ c ≡ a *ℤ (b *ℤ c)
times_assoc a b c =
    let p = product_is a b in
    let q = product_is b c in
    same_in (a *ℤ b *ℤ c) (a *ℤ (b *ℤ c)) (
    omega (
      arith,
      product_is (a *ℤ b) c,
      product_is a (b *ℤ c),
      ap (λ x. x * up c) p.0,
      ap (λ x. x * down c) p.0,
      ap (λ x. x * up c) p.1,
      ap (λ x. x * down c) p.1,
      ap (λ x. up a * x) q.0,
      ap (λ x. down a * x) q.0,
      ap (λ x. up a * x) q.1,
      ap (λ x. down a * x) q.1,
      shared (up a) (up b) (up c) (down a) (down b),
      shared (up a) (up b) (down c) (down a) (down b),
      shared (up a) (down b) (up c) (down a) (up b),
      shared (up a) (down b) (down c) (down a) (up b),
      gathered (up a) (up b) (up c) (down b) (down c),
      gathered (down a) (up b) (up c) (down b) (down c),
      gathered (up a) (up b) (down c) (down b) (up c),
      gathered (down a) (up b) (down c) (down b) (up c),
    )
    )
