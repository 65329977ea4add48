-- Numbers that are read lie in their range, and stay the same in a narrower type.
use Rattle.std.proofs.Common.{◌≡◌, ℕ, ℤ, pos, negsuc, ◌≤◌, ◌≤ℤ◌, ◌&&◌, Bool, true, false, cond, List, Result, Ok, Err, Option, Some}
use Rattle.std.proofs.Common.{None, refl, sym, ◌∙◌, subst, ap, FitsSigned, to_z, of_z, to_z-of_z, w8, w16, w32, w64, Fits, arith, T}
use Rattle.std.proofs.Common.{nat_abs}
use Rattle.std.specs.Prelude.{int_le}
use Rattle.std.proofs.lemmas.Bool.{and_parts}
use Rattle.std.proofs.lemmas.Int.{ints}
use lib.Signed.{non_neg}
use Rattle.std.specs.Int.{Width}
use Rattle.std.specs.Option.{ok_or}
use Rattle.list_views.proofs.Orders.{int_le_true}
use Rattle.json_view.specs.Located.{Located}
use Rattle.json_view.specs.Reading.{int_of, within, whole_number_of}
use Rattle.json_view.specs.declared.fault.JsonFault.{JsonFault}
use Rattle.json_view.specs.declared.fault.JsonFault.TheVariants.{OutOfRange, WrongKind}
use Rattle.list_views.specs.Results.{◌>>=◌}
use Rattle.cert_form.specs.Answers.{json}

pub record IsWithin (low high n : ℤ) : Type 0 where
  pub least : low ≤ℤ n
  pub greatest : n ≤ℤ high

inside : (fault : JsonFault) (low high m n : ℤ) (t : Bool) → (int_le low m && int_le m high) ≡ t
    → json (cond t (Ok m) (Err fault)) ≡ Ok n → IsWithin low high n
inside fault low high m n true t e =
    let p = and_parts (int_le low m) (int_le m high) t in
    let same : m ≡ n = cc in
    subst (λ (x : ℤ). IsWithin low high x) same (record { least = int_le_true low m p.0; greatest = int_le_true m high p.1 })
inside fault low high m n false t e = let no : ⊥ = cc in absurd no

inside_kind : (place : List ℕ) (low high n : ℤ) (found : Option ℤ) → json (ok_or found (WrongKind place) >>= within place low high)
    ≡ Ok n → IsWithin low high n
inside_kind place low high n (Some m) e = inside (OutOfRange place) low high m n (int_le low m && int_le m high) refl e
inside_kind place low high n None e = let no : ⊥ = cc in absurd no

-- what is read as a whole number from `low` to `high` lies there
pub int_within : (low high n : ℤ) (here : Located) → json (int_of low high here) ≡ Ok n → IsWithin low high n
unfolding int_of
int_within low high n here e = inside_kind here.place low high n (whole_number_of here.value) e

-- ---- casts

abbrev tower : ℤ → ℤ
tower n = to_z w64 (of_z w64 n)

is_long : (most : ℕ) (n : ℤ) → most ≤ 4294967295 → IsWithin (pos 0) (pos most) n → FitsSigned w64 n
is_long most n l w = let low = w.least in let g = w.greatest in omega (arith, ints)

-- a number from 0 as the code holds it
pub number_same : (most : ℕ) (n : ℤ) (here : Located) → most ≤ 4294967295 → json (int_of (pos 0) (pos most) here) ≡ Ok n → tower n ≡ n
number_same most n here l e = to_z-of_z (is_long most n l (int_within _ _ n here e))

abbrev Casts : Width → ℤ → Type 0
Casts w n = T (non_neg n) × Fits w (nat_abs n)

number_casts : (n : ℤ) → IsWithin (pos 0) (pos 4294967295) n → Casts w32 n
number_casts (pos k) w = let g = w.greatest in (tt, omega (arith, ints))
number_casts (negsuc k) w = let l = w.least in absurd (omega (arith, ints))

short_casts : (n : ℤ) → IsWithin (pos 0) (pos 65535) n → Casts w16 n
short_casts (pos k) w = let g = w.greatest in (tt, omega (arith, ints))
short_casts (negsuc k) w = let l = w.least in absurd (omega (arith, ints))

byte_casts : (n : ℤ) → IsWithin (pos 0) (pos 255) n → Casts w8 n
byte_casts (pos k) w = let g = w.greatest in (tt, omega (arith, ints))
byte_casts (negsuc k) w = let l = w.least in absurd (omega (arith, ints))

pub number_fits : (n : ℤ) (here : Located) → json (int_of (pos 0) (pos 4294967295) here) ≡ Ok n → Casts w32 (tower n)
number_fits n here e = subst (λ (z : ℤ). Casts w32 z) (sym (number_same 4294967295 n here (omega arith) e))
    (number_casts n (int_within _ _ n here e))

pub short_fits : (n : ℤ) (here : Located) → json (int_of (pos 0) (pos 65535) here) ≡ Ok n → Casts w16 (tower n)
short_fits n here e = subst (λ (z : ℤ). Casts w16 z) (sym (number_same 65535 n here (omega arith) e))
    (short_casts n (int_within _ _ n here e))

pub byte_fits : (n : ℤ) (here : Located) → json (int_of (pos 0) (pos 255) here) ≡ Ok n → Casts w8 (tower n)
byte_fits n here e = subst (λ (z : ℤ). Casts w8 z) (sym (number_same 255 n here (omega arith) e)) (byte_casts n (int_within _ _ n here e))

-- a number that may be -1, as the code holds it
maybe_is_long : (most : ℕ) (n : ℤ) → most ≤ 4294967295 → IsWithin (negsuc 0) (pos most) n → FitsSigned w64 n
maybe_is_long most n l w = let low = w.least in let g = w.greatest in omega (arith, ints)

pub maybe_same : (most : ℕ) (n : ℤ) (here : Located) → most ≤ 4294967295 → json (int_of (negsuc 0) (pos most) here) ≡ Ok n → tower n ≡ n
maybe_same most n here l e = to_z-of_z (maybe_is_long most n l (int_within _ _ n here e))

at_most_greatest : (most : ℕ) (n : ℤ) → most ≤ 4294967295 → IsWithin (negsuc 0) (pos most) n → n ≤ℤ pos 4294967295
at_most_greatest most n l w = let g = w.greatest in omega (arith, ints)

pub maybe_within : (most : ℕ) (n : ℤ) (here : Located) → most ≤ 4294967295 → json (int_of (negsuc 0) (pos most) here) ≡ Ok n
    → tower n ≤ℤ pos 4294967295
maybe_within most n here l e = subst (λ (z : ℤ). z ≤ℤ pos 4294967295) (sym (maybe_same most n here l e))
    (at_most_greatest most n l (int_within _ _ n here e))

-- an int as the code holds it
int_is_long : (n : ℤ) → IsWithin (negsuc 2147483647) (pos 2147483647) n → FitsSigned w64 n
int_is_long n w = let l = w.least in let g = w.greatest in omega (arith, ints)

pub int_fits : (n : ℤ) (here : Located) → json (int_of (negsuc 2147483647) (pos 2147483647) here) ≡ Ok n → FitsSigned w32 (tower n)
int_fits n here e =
    let w = int_within _ _ n here e in
    let l = w.least in let g = w.greatest in
    let f : FitsSigned w32 n = omega (arith, ints) in
    subst (λ (z : ℤ). FitsSigned w32 z) (sym (to_z-of_z (int_is_long n w))) f

pub int_same : (n : ℤ) (here : Located) → json (int_of (negsuc 2147483647) (pos 2147483647) here) ≡ Ok n
    → to_z w32 (of_z w32 (tower n)) ≡ n
int_same n here e =
    let w = int_within _ _ n here e in
    to_z-of_z (int_fits n here e) ∙ to_z-of_z (int_is_long n w)
