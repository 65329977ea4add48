-- What `rem_euclid` leaves of a number, read again at 32 bits.
use Rattle.std.proofs.Common.{◌≡◌, ℕ, suc, ◌-◌, ◌<◌, Bool, true, false, cond, ltb, ℤ, pos, negsuc, ◌+ℤ◌, ◌-ℤ◌, ◌*ℤ◌, ◌≤ℤ◌, ◌<ℤ◌}
use Rattle.std.proofs.Common.{FitsSigned, to_z, of_z, w32, w64, to_z-of_z, ◌∙◌, ap, sym, refl, lit<, arith}
use Rattle.std.proofs.lemmas.Int.{ints}
use Rattle.std.specs.Int.{int_div_euclid, int_rem_euclid, int_wrap}
use Rattle.std.specs.Prelude.{unsigned_abs}
use borrow.Author.Tests.{ltb-true, ltb-false}
use Rattle.lin_core.specs.Wrapping.{IsCongruent}

divided : (n : ℤ) (m : ℕ) → 0 < m → n ≡ int_rem_euclid n (pos m) +ℤ int_div_euclid n (pos m) *ℤ pos m
divided (pos a) m h = omega (arith, ints)
divided (negsuc a) m h = omega (arith, ints)

bounds : (n : ℤ) → (pos 0 ≤ℤ int_rem_euclid n (pos 4294967296)) × (int_rem_euclid n (pos 4294967296) <ℤ pos 4294967296)
bounds (pos a) = (omega (arith, ints), omega (arith, ints))
bounds (negsuc a) = (omega (arith, ints), omega (arith, ints))

-- the remainder of a number that was passed: where it is, and what it leaves
pub record IsRemainder (n r : ℤ) : Type 0 where
  pub low : pos 0 ≤ℤ r
  pub high : r <ℤ pos 4294967296
  pub is : r ≡ int_rem_euclid n (pos 4294967296)
  pub rest : n ≡ r +ℤ int_div_euclid n (pos 4294967296) *ℤ pos 4294967296

pub is_remainder : (n r : ℤ) → FitsSigned w64 n → r ≡ int_rem_euclid (to_z w64 (of_z w64 n)) (pos 4294967296) → IsRemainder n r
is_remainder n r f e =
    let q : r ≡ int_rem_euclid n (pos 4294967296) = e ∙ ap (λ (z : ℤ). int_rem_euclid z (pos 4294967296)) (to_z-of_z f) in
    record {
      low = rw q (bounds n).0;
      high = rw q (bounds n).1;
      is = q;
      rest = rw q (divided n 4294967296 (lit< tt));
    }

pub congruent_low : (n r : ℤ) → IsRemainder n r → r <ℤ pos 2147483648 → IsCongruent n (to_z w32 (of_z w32 (to_z w64 (of_z w64 r))))
congruent_low n r h low = (int_div_euclid n (pos 4294967296), omega (arith, ints))

pub congruent_high : (n r : ℤ) → IsRemainder n r → pos 2147483648 ≤ℤ r
    → IsCongruent n (to_z w32 (of_z w32 (to_z w64 (of_z w64 (to_z w64 (of_z w64 r) -ℤ pos 4294967296)))))
congruent_high n r h high = (int_div_euclid n (pos 4294967296) +ℤ pos 1, omega (arith, ints))

wrapped_bits : (r : ℤ) (t : Bool) → pos 0 ≤ℤ r → r <ℤ pos 4294967296 → ltb (unsigned_abs r) 2147483648 ≡ t
    → cond t (pos (unsigned_abs r)) (negsuc (4294967296 - suc (unsigned_abs r))) ≡ cond t r (r -ℤ pos 4294967296)
wrapped_bits (pos r) true low high e = refl
wrapped_bits (pos r) false low high e = omega (arith, ints)
wrapped_bits (negsuc r) t low high e = absurd (omega (arith, ints))

wrap_is : (n r : ℤ) → IsRemainder n r → int_wrap w32 n ≡ cond (ltb (unsigned_abs r) 2147483648) r (r -ℤ pos 4294967296)
unfolding int_wrap
wrap_is n r h = ap (λ (z : ℤ). to_z w32 (unsigned_abs z)) (sym h.is) ∙ wrapped_bits r (ltb (unsigned_abs r) 2147483648) h.low h.high refl

low_case : (t : Bool) (r : ℤ) → pos 0 ≤ℤ r → r <ℤ pos 2147483648 → ltb (unsigned_abs r) 2147483648 ≡ t → cond t r (r -ℤ pos 4294967296) ≡ r
low_case true r low high e = refl
low_case false (pos r) low high e = absurd (omega (arith, ints, ltb-false))
low_case false (negsuc r) low high e = absurd (omega (arith, ints))

high_case : (t : Bool) (r : ℤ) → pos 2147483648 ≤ℤ r → ltb (unsigned_abs r) 2147483648 ≡ t
    → cond t r (r -ℤ pos 4294967296) ≡ r -ℤ pos 4294967296
high_case true (pos r) low e = absurd (omega (arith, ints, ltb-true))
high_case true (negsuc r) low e = absurd (omega (arith, ints))
high_case false r low e = refl

pub wrap_low : (n r : ℤ) → IsRemainder n r → r <ℤ pos 2147483648 → to_z w32 (of_z w32 (to_z w64 (of_z w64 r))) ≡ int_wrap w32 n
wrap_low n r h low =
    let back : to_z w32 (of_z w32 (to_z w64 (of_z w64 r))) ≡ r = omega (arith, ints) in
    back ∙ sym (wrap_is n r h ∙ low_case (ltb (unsigned_abs r) 2147483648) r h.low low refl)

pub wrap_high : (n r : ℤ) → IsRemainder n r → pos 2147483648 ≤ℤ r
    → to_z w32 (of_z w32 (to_z w64 (of_z w64 (to_z w64 (of_z w64 r) -ℤ pos 4294967296)))) ≡ int_wrap w32 n
wrap_high n r h high =
    let back : to_z w32 (of_z w32 (to_z w64 (of_z w64 (to_z w64 (of_z w64 r) -ℤ pos 4294967296)))) ≡ r -ℤ pos 4294967296 = omega
    (arith, ints) in
    back ∙ sym (wrap_is n r h ∙ high_case (ltb (unsigned_abs r) 2147483648) r high refl)
