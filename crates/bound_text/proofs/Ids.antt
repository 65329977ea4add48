-- Ids that are read stay the same in a narrower type.
use Rattle.std.proofs.Common.{◌≡◌, ℤ, pos, negsuc, Ok, sym, subst, FitsSigned, to_z, of_z, to_z-of_z, w16, w64, Fits, arith, T, nat_abs}
use Rattle.std.proofs.lemmas.Int.{ints}
use lib.Signed.{non_neg}
use Rattle.json_view.specs.Located.{Located}
use Rattle.json_view.specs.Reading.{int_of}
use Rattle.input_text.proofs.Numbers.{IsWithin, int_within}

abbrev tower : ℤ → ℤ
tower n = to_z w64 (of_z w64 n)

id_is_long : (n : ℤ) → IsWithin (pos 0) (pos 2047) n → FitsSigned w64 n
id_is_long n w = let l = w.least in let g = w.greatest in omega (arith, ints)

pub id_same : (n : ℤ) (here : Located) → Ok n ≡ int_of (pos 0) (pos 2047) here → tower n ≡ n
id_same n here e = to_z-of_z (id_is_long n (int_within _ _ n here (sym e)))

abbrev Casts : ℤ → Type 0
Casts n = T (non_neg n) × Fits w16 (nat_abs n)

id_casts : (n : ℤ) → IsWithin (pos 0) (pos 2047) n → Casts n
id_casts (pos k) w = let g = w.greatest in (tt, omega (arith, ints))
id_casts (negsuc k) w = let l = w.least in absurd (omega (arith, ints))

pub id_fits : (n : ℤ) (here : Located) → Ok n ≡ int_of (pos 0) (pos 2047) here → Casts (tower n)
id_fits n here e = subst (λ (z : ℤ). Casts z) (sym (id_same n here e)) (id_casts n (int_within _ _ n here (sym e)))
