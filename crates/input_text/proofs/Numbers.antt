-- Numbers that are read lie in their range, and stay the same in a narrower type.
use Rattle.std.proofs.Common.{◌≡◌, ℕ, ℤ, pos, negsuc, ◌≤ℤ◌, ◌&&◌, Bool, true, false, cond, List, Ok, Err, Option, Some, None, refl}
use Rattle.std.proofs.Common.{sym, ◌∙◌, subst, FitsSigned, to_z, of_z, to_z-of_z, w8, w32, w64, Fits, arith, T, nat_abs}
use Rattle.std.specs.Prelude.{int_le}
use Rattle.std.proofs.lemmas.Bool.{and_parts}
use Rattle.std.proofs.lemmas.Int.{ints}
use lib.Signed.{non_neg}
use Rattle.std.specs.Int.{Width}
use Rattle.input_text.specs.Fields.{◌>>=◌, an_int}
use Rattle.json_view.specs.Located.{Located}
use Rattle.json_view.specs.Reading.{int_of, within, whole_number_of}
use Rattle.json_view.specs.declared.fault.JsonFault.{JsonFault}
use Rattle.json_view.specs.declared.fault.JsonFault.TheVariants.{OutOfRange, WrongKind}
use Rattle.std.specs.Option.{ok_or}
use Rattle.list_views.proofs.Orders.{int_le_true}

pub record IsWithin (low high n : ℤ) : Type 0 where
  pub least : low ≤ℤ n
  pub greatest : n ≤ℤ high

inside : (fault : JsonFault) (low high m n : ℤ) (t : Bool) → (int_le low m && int_le m high) ≡ t → cond t (Ok m) (Err fault) ≡ Ok n
    → IsWithin low high n
inside fault low high m n true t e =
    let p = and_parts (int_le low m) (int_le m high) t in
    let same : m ≡ n = cc in
    subst (λ (x : ℤ). IsWithin low high x) same (record { least = int_le_true low m p.0; greatest = int_le_true m high p.1 })
inside fault low high m n false t e = let no : ⊥ = cc in absurd no

inside_kind : (place : List ℕ) (low high n : ℤ) (found : Option ℤ)
    → (ok_or found (WrongKind place) >>= within place low high) ≡ Ok n → IsWithin low high n
inside_kind place low high n (Some m) e = inside (OutOfRange place) low high m n (int_le low m && int_le m high) refl e
inside_kind place low high n None e = let no : ⊥ = cc in absurd no

pub int_within : (low high n : ℤ) (here : Located) → int_of low high here ≡ Ok n → IsWithin low high n
unfolding int_of
int_within low high n here e = inside_kind here.place low high n (whole_number_of here.value) e

-- ---- casts

abbrev tower : ℤ → ℤ
tower n = to_z w64 (of_z w64 n)

int_is_long : (n : ℤ) → IsWithin (negsuc 2147483647) (pos 2147483647) n → FitsSigned w64 n
int_is_long n w = let l = w.least in let g = w.greatest in omega (arith, ints)

number_is_long : (n : ℤ) → IsWithin (pos 0) (pos 4294967295) n → FitsSigned w64 n
number_is_long n w = let l = w.least in let g = w.greatest in omega (arith, ints)

pub int_fits : (n : ℤ) (here : Located) → Ok n ≡ int_of (negsuc 2147483647) (pos 2147483647) here → FitsSigned w32 (tower n)
int_fits n here e =
    let w = int_within _ _ n here (sym e) in
    let l = w.least in let g = w.greatest in
    let f : FitsSigned w32 n = omega (arith, ints) in
    subst (λ (z : ℤ). FitsSigned w32 z) (sym (to_z-of_z (int_is_long n w))) f

pub int_same : (n : ℤ) (here : Located) → Ok n ≡ int_of (negsuc 2147483647) (pos 2147483647) here → to_z w32 (of_z w32 (tower n)) ≡ n
int_same n here e =
    let w = int_within _ _ n here (sym e) in
    to_z-of_z (int_fits n here e) ∙ to_z-of_z (int_is_long n w)

-- an int that was read, as the code holds it
pub int_kept : (n : ℤ) (here : Located) → an_int here ≡ Ok n → to_z w32 (of_z w32 n) ≡ n
unfolding an_int
int_kept n here e =
    let w = int_within _ _ n here e in
    let l = w.least in let g = w.greatest in
    let f : FitsSigned w32 n = omega (arith, ints) in
    to_z-of_z f

pub number_same : (n : ℤ) (here : Located) → Ok n ≡ int_of (pos 0) (pos 4294967295) here → tower n ≡ n
number_same n here e = to_z-of_z (number_is_long n (int_within _ _ n here (sym e)))

abbrev Casts : Width → ℤ → Type 0
Casts w n = T (non_neg n) × Fits w (nat_abs n)

number_casts : (n : ℤ) → IsWithin (pos 0) (pos 4294967295) n → Casts w32 n
number_casts (pos k) w = let g = w.greatest in (tt, omega (arith, ints))
number_casts (negsuc k) w = let l = w.least in absurd (omega (arith, ints))

pub number_fits : (n : ℤ) (here : Located) → Ok n ≡ int_of (pos 0) (pos 4294967295) here → Casts w32 (tower n)
number_fits n here e = subst (λ (z : ℤ). Casts w32 z) (sym (number_same n here e)) (number_casts n (int_within _ _ n here (sym e)))

byte_is_long : (n : ℤ) → IsWithin (pos 0) (pos 255) n → FitsSigned w64 n
byte_is_long n w = let l = w.least in let g = w.greatest in omega (arith, ints)

pub byte_same : (n : ℤ) (here : Located) → Ok n ≡ int_of (pos 0) (pos 255) here → tower n ≡ n
byte_same n here e = to_z-of_z (byte_is_long n (int_within _ _ n here (sym e)))

byte_casts : (n : ℤ) → IsWithin (pos 0) (pos 255) n → Casts w8 n
byte_casts (pos k) w = let g = w.greatest in (tt, omega (arith, ints))
byte_casts (negsuc k) w = let l = w.least in absurd (omega (arith, ints))

pub byte_fits : (n : ℤ) (here : Located) → Ok n ≡ int_of (pos 0) (pos 255) here → Casts w8 (tower n)
byte_fits n here e = subst (λ (z : ℤ). Casts w8 z) (sym (byte_same n here e)) (byte_casts n (int_within _ _ n here (sym e)))
