-- What the common interval of two intervals has.
use Rattle.std.proofs.Common.{◌≡◌, ◌↔◌, ℤ, ◌≤ℤ◌, Bool, true, false, cond, Option, Some, None, refl, sym, subst, arith}
use Rattle.std.specs.Prelude.{IfSome, IsNone, int_le}
use Rattle.std.proofs.lemmas.Int.{ints, clamps}
use Rattle.std.specs.Int.{int_max, int_min}
use Rattle.lin_core.specs.Intervals.{Bounds, interval_of, IsIn}

abbrev both_of : Bounds → Bounds → Bounds
both_of x y = record { lo = int_max x.lo y.lo; hi = int_min x.hi y.hi }

has_both : (x y : Bounds) (n : ℤ) → IsIn n (both_of x y) ↔ (IsIn n x × IsIn n y)
has_both x y n = (
  λ h. ((omega (arith, ints, clamps), omega (arith, ints, clamps)), (omega (arith, ints, clamps), omega (arith, ints, clamps))),
  λ h. (omega (arith, ints, clamps), omega (arith, ints, clamps)),
)

-- the answer has the common numbers, and is None where there are none
pub record Meets (x y : Bounds) (r : Option Bounds) : Type 0 where
  pub common : IfSome r (λ both. (n : ℤ) → IsIn n both ↔ (IsIn n x × IsIn n y))
  pub apart : IsNone r ↔ ((n : ℤ) → ¬ (IsIn n x × IsIn n y))

least_of_both : (x y : Bounds) → int_max x.lo y.lo ≤ℤ int_min x.hi y.hi → IsIn (int_max x.lo y.lo) x × IsIn (int_max x.lo y.lo) y
least_of_both x y h =
    ((omega (arith, ints, clamps), omega (arith, ints, clamps)), (omega (arith, ints, clamps), omega (arith, ints, clamps)))

none_in_both : (x y : Bounds) → ¬ (int_max x.lo y.lo ≤ℤ int_min x.hi y.hi) → (n : ℤ) → ¬ (IsIn n x × IsIn n y)
none_in_both x y h n both = h (omega (arith, ints, clamps))

meet_cases : (x y : Bounds) (t : Bool) → int_le (int_max x.lo y.lo) (int_min x.hi y.hi) ≡ t → Meets x y (cond t (Some (both_of x y)) None)
meet_cases x y true e = record {
  common = has_both x y;
  apart = (λ h. cc, λ h. absurd (h (int_max x.lo y.lo) (least_of_both x y (omega (arith, ints)))));
}
meet_cases x y false e = record {
  common = tt;
  apart = (λ h. none_in_both x y (λ le. omega (arith, ints)), λ h. refl);
}

pub meet_is : (x y : Bounds) (r : Option Bounds) → r ≡ interval_of (int_max x.lo y.lo) (int_min x.hi y.hi) → Meets x y r
meet_is x y r e = subst (Meets x y) (sym e) (meet_cases x y _ refl)
