-- The number of a field fits it.
use Rattle.std.proofs.Common.{◌≡◌, ◌-◌, ◌^◌, ◌≤ℤ◌, Bool, true, false, cond, ◌&&◌, Option, Some, None, refl, subst, arith, ℤ, pos, negsuc}
use Rattle.std.specs.Prelude.{if◌then◌else◌}
use Rattle.std.specs.Option.{option_and_then}
use Rattle.std.specs.Int.{w32}
use Rattle.std.specs.Int.RustNames.{FitsSigned, int_le}
use Rattle.std.proofs.lemmas.Int.{ints}
use Rattle.std.proofs.lemmas.Bool.{and_parts}
use Rattle.list_views.proofs.Options.{cond_guarded}
use Rattle.code_decode.proofs.Takes.{some_is}
use Rattle.asm_lines.specs.declared.number.Number.{Number}
use Rattle.asm_lines.specs.Numbers.{signed_of, int_of}

pub chained : {A B : Type 0} (f : A → Option B) (o : Option A) (y : B) → option_and_then f o ≡ Some y
    → (x : A) × (o ≡ Some x) × (f x ≡ Some y)
chained f None y h = absurd cc
chained f (Some x) y h = (x, refl, h)

pub lies : (low high v : ℤ) → (int_le low v && int_le v high) ≡ true → (low ≤ℤ v) × (v ≤ℤ high)
lies low high v h = let p = and_parts (int_le low v) (int_le v high) h in (grind (arith, ints), grind (arith, ints))

pub int_fits : (n : Number) (v : ℤ) → int_of n ≡ Some v → FitsSigned w32 v
int_fits n v h =
    let c = chained (λ m. if int_le (negsuc (2 ^ 31 - 1)) m && int_le m (pos (2 ^ 31 - 1)) then Some m else None) (signed_of n) v h in
    let g = cond_guarded (int_le (negsuc (2 ^ 31 - 1)) c.0 && int_le c.0 (pos (2 ^ 31 - 1))) (Some c.0) v c.2 in
    let l = lies (negsuc (2 ^ 31 - 1)) (pos (2 ^ 31 - 1)) c.0 g.0 in
    let e : c.0 ≡ v = some_is c.0 v g.1 in
    subst (FitsSigned w32) e (omega (arith, ints, l.0, l.1))
