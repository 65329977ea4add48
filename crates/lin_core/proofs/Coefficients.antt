-- Laws of coefficients: of two lists of terms one behind the other, and of terms times a number.
use Rattle.std.proofs.Common.{[], ℕ, List, arith, ℤ, ◌≡◌, ◌+◌, ◌∷◌, ◌++◌, ◌+ℤ◌, pos, false, true, sym, Bool, cond, ◌*◌, ◌*ℤ◌, ◌≤◌, suc}
use Rattle.lin_core.specs.Rows.{coefficient_of, RiseFrom}
use Rattle.list_views.proofs.Ring.{times_plus}
use Rattle.std.proofs.lemmas.Int.{ints}

pub coefficient_both : (x : ℕ) (a b : List (ℕ × ℤ)) → coefficient_of x (a ++ b) ≡ coefficient_of x a +ℤ coefficient_of x b
coefficient_both x [] b = omega (arith, ints)
coefficient_both x (term ∷ rest) b = let h = coefficient_both x rest b in omega (arith, ints)

pub scaled_if : (here : Bool) (by k rest whole : ℤ) → whole ≡ by *ℤ rest
    → cond here (by *ℤ k) (pos 0) +ℤ whole ≡ by *ℤ (cond here k (pos 0) +ℤ rest)
scaled_if true by k rest whole h = rw h (sym (times_plus by k rest))
scaled_if false by k rest whole h = let e : pos 0 +ℤ rest ≡ rest = omega (arith, ints) in rw e (omega (arith, ints))

pub rise_lower : (low low' end : ℕ) (terms : List (ℕ × ℤ)) → low ≤ low' → RiseFrom low' end terms → RiseFrom low end terms
rise_lower low low' end [] l rise = tt
rise_lower low low' end (term ∷ terms) l rise = let k = rise.0 in (omega (arith, l, k), rise.1, rise.2)

pub rise_wider : (low end more : ℕ) (terms : List (ℕ × ℤ)) → end ≤ more → RiseFrom low end terms → RiseFrom low more terms
rise_wider low end more [] le h = tt
rise_wider low end more (term ∷ rest) le h = (h.0, omega (arith, h.1), rise_wider (suc term.0) end more rest le h.2)
