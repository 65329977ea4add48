-- What the library's operations on 32 bits give, as numbers; and where narrowed numbers lie.
use Rattle.std.proofs.Common.{◌≡◌, ℕ, suc, ◌*◌, ◌%◌, ◌^◌, ◌<◌, ◌≤◌, ℤ, pos, negsuc, ◌*ℤ◌, ◌≤ℤ◌, Bool, true, false, Some, FitsSigned}
use Rattle.std.proofs.Common.{to_z, of_z, w8, w16, w32, to_z-of_z, ◌∙◌, ap, sym, refl, lit<, arith}
use Rattle.std.proofs.lemmas.Int.{ints, SFits-int_wrap, wrapping_mul-bits, int_wrap-mul_right}
use Rattle.std.specs.Int.{int_rem_euclid, int_wrap, int_shl}
use Rattle.std.specs.Ordering.{int_eq}
use Rattle.std.specs.Prelude.{unsigned_abs, int_div}
use Rattle.std.proofs.Math.Nat.{div-le_self, mod-eq_of_lt, mod-lt}
use Rattle.std.proofs.lemmas.Bool.Decides.{Decides-int_eq}
use Rattle.std.proofs.Math.Pow.{pow-lt}
use Rattle.std.proofs.lemmas.Bool.{false_from_ne_true}
use Rattle.jvm_values.specs.Ints.{int_shifted_left, int_quotient}

-- a number below 2^32 in size, read as 32 bits, is the number wrapped
pub wrapped : (z : ℤ) → unsigned_abs z < 4294967296 → to_z w32 (of_z w32 z) ≡ int_wrap w32 z
unfolding int_wrap
wrapped (pos n) h = ap (to_z w32) (sym (mod-eq_of_lt h))
wrapped (negsuc n) h = ap (to_z w32) (omega arith)

pub abs_quotient : (a b : ℤ) → unsigned_abs (int_div a b) ≤ unsigned_abs a
abs_quotient (pos a) (pos b) = div-le_self a b
abs_quotient (pos a) (negsuc b) = omega (arith, ints, div-le_self a (suc b))
abs_quotient (negsuc a) (pos b) = omega (arith, ints, div-le_self (suc a) b)
abs_quotient (negsuc a) (negsuc b) = div-le_self (suc a) (suc b)

pub abs_of_int : (z : ℤ) → FitsSigned w32 z → unsigned_abs z ≤ 2147483648
abs_of_int (pos n) h = omega (arith, ints, h)
abs_of_int (negsuc n) h = omega (arith, ints, h)

-- the quotient of ints, read as 32 bits
pub quotient_wrapped : (a b : ℤ) → FitsSigned w32 a → to_z w32 (of_z w32 (int_div a b)) ≡ int_wrap w32 (int_div a b)
quotient_wrapped a b h = wrapped (int_div a b) (omega (arith, abs_quotient a b, abs_of_int a h))

power_below : (k : ℕ) → k < 32 → 2 ^ k < 4294967296
power_below k h = pow-lt h

-- the bits of an int moved up, as 32 bits
pub shifted : (a : ℤ) (k : ℕ) → FitsSigned w32 a → k < 32 → to_z w32 ((of_z w32 a * 2 ^ k) % 4294967296) ≡ int_wrap w32 (a *ℤ pos (2 ^ k))
shifted a k f h =
    let q = power_below k h in
    let p : of_z w32 a < 4294967296 = omega (arith, ints, f) in
    wrapping_mul-bits w32 (of_z w32 a) (2 ^ k) p q ∙ ap (λ (z : ℤ). int_wrap w32 (z *ℤ to_z w32 (2 ^ k))) (to_z-of_z f)
    ∙ ap (λ (z : ℤ). int_wrap w32 (a *ℤ z)) (wrapped (pos (2 ^ k)) q) ∙ int_wrap-mul_right w32 a (pos (2 ^ k))

pub shift_left_is : (a b r : ℤ) (n : ℕ) → FitsSigned w32 a → FitsSigned w32 b → n ≡ of_z w32 (to_z w32 (of_z w32 b))
    → r ≡ int_shl w32 (to_z w32 (of_z w32 a)) (n % 32) → to_z w32 (of_z w32 r) ≡ int_shifted_left a b
shift_left_is a b r n f g count e =
    let bits : of_z w32 (to_z w32 (of_z w32 b)) ≡ of_z w32 b = ap (of_z w32) (to_z-of_z g) in
    let is : r ≡ int_shifted_left a b = e ∙ ap (λ (z : ℤ). int_shl w32 z (n % 32)) (to_z-of_z f)
    ∙ ap (λ (k : ℕ). int_shl w32 a (k % 32)) (count ∙ bits) ∙ shifted a (of_z w32 b % 32) f (mod-lt _ (lit< tt)) in
    ap (λ (z : ℤ). to_z w32 (of_z w32 z)) is ∙ to_z-of_z (SFits-int_wrap w32 (a *ℤ pos (2 ^ (of_z w32 b % 32)))) ∙ refl

-- what `rem_euclid` leaves of an int, read with a sign
pub byte_is : (v low signed r : ℤ) → FitsSigned w32 v → FitsSigned w32 low → FitsSigned w8 signed
    → low ≡ int_rem_euclid (to_z w32 (of_z w32 v)) (pos 256) → signed ≡ to_z w8 (unsigned_abs (to_z w32 (of_z w32 low)))
    → r ≡ to_z w8 (of_z w8 signed) → to_z w32 (of_z w32 r) ≡ int_wrap w8 v
unfolding int_wrap
byte_is v low signed r f g h e k l =
    let is : r ≡ int_wrap w8 v = l ∙ to_z-of_z h ∙ k
    ∙ ap (λ (z : ℤ). to_z w8 (unsigned_abs z)) (to_z-of_z g ∙ e ∙ ap (λ (z : ℤ). int_rem_euclid z (pos 256)) (to_z-of_z f)) in
    let fits : FitsSigned w8 (int_wrap w8 v) = SFits-int_wrap w8 v in
    ap (λ (z : ℤ). to_z w32 (of_z w32 z)) is ∙ (omega (arith, ints, fits))

pub short_is : (v low signed r : ℤ) → FitsSigned w32 v → FitsSigned w32 low → FitsSigned w16 signed
    → low ≡ int_rem_euclid (to_z w32 (of_z w32 v)) (pos 65536) → signed ≡ to_z w16 (unsigned_abs (to_z w32 (of_z w32 low)))
    → r ≡ to_z w16 (of_z w16 signed) → to_z w32 (of_z w32 r) ≡ int_wrap w16 v
unfolding int_wrap
short_is v low signed r f g h e k l =
    let is : r ≡ int_wrap w16 v = l ∙ to_z-of_z h ∙ k
    ∙ ap (λ (z : ℤ). to_z w16 (unsigned_abs z)) (to_z-of_z g ∙ e ∙ ap (λ (z : ℤ). int_rem_euclid z (pos 65536)) (to_z-of_z f)) in
    let fits : FitsSigned w16 (int_wrap w16 v) = SFits-int_wrap w16 v in
    ap (λ (z : ℤ). to_z w32 (of_z w32 z)) is ∙ (omega (arith, ints, fits))

-- wrapped numbers lie in their kinds' ranges
pub byte_in_range : (v r : ℤ) → r ≡ int_wrap w8 v → (negsuc 127 ≤ℤ to_z w32 (of_z w32 r)) × (to_z w32 (of_z w32 r) ≤ℤ pos 127)
byte_in_range v r e = let f : FitsSigned w8 r = rw e (SFits-int_wrap w8 v) in (omega (arith, ints, f), omega (arith, ints, f))

pub short_in_range : (v r : ℤ) → r ≡ int_wrap w16 v → (negsuc 32767 ≤ℤ to_z w32 (of_z w32 r)) × (to_z w32 (of_z w32 r) ≤ℤ pos 32767)
short_in_range v r e = let f : FitsSigned w16 r = rw e (SFits-int_wrap w16 v) in (omega (arith, ints, f), omega (arith, ints, f))

-- what the library divides, as the quotient
pub quotient_is : (a b r : ℤ) → FitsSigned w32 a → FitsSigned w32 b → FitsSigned w32 r
    → r ≡ to_z w32 (of_z w32 (int_div (to_z w32 (of_z w32 a)) (to_z w32 (of_z w32 b))))
    → to_z w32 (of_z w32 r) ≡ int_wrap w32 (int_div a b)
quotient_is a b r f g h e = to_z-of_z h ∙ e ∙ ap (λ (z : ℤ). to_z w32 (of_z w32 (int_div z (to_z w32 (of_z w32 b))))) (to_z-of_z f)
    ∙ ap (λ (z : ℤ). to_z w32 (of_z w32 (int_div a z))) (to_z-of_z g) ∙ quotient_wrapped a b f

-- the answer where the divisor is not 0
pub given_quotient : (a b z : ℤ) → (of_z w32 b ≡ 0 → ⊥) → z ≡ int_wrap w32 (int_div a b) → Some z ≡ int_quotient a b
given_quotient a b z h e =
    let no : int_eq b (pos 0) ≡ false = false_from_ne_true (int_eq b (pos 0)) (λ t. h (ap (of_z w32) ((Decides-int_eq b (pos 0)).0 t))) in
    rw no (ap Some e)
