-- Options, tests and lists, place by place.
use Rattle.std.proofs.Common.{◌≡◌, ℕ, zero, suc, ◌+◌, ◌<◌, Bool, true, false, cond, ltb, List, [], ◌∷◌, Option, Some, None, refl}
use Rattle.std.proofs.Common.{sym, subst, ◌∙◌, arith}
use Rattle.std.specs.Prelude.{slice_get, slice_set, All}
use Rattle.std.specs.List.{AllZip}
use Rattle.std.specs.Option.{option_and_then}
use Rattle.list_views.specs.Options.{asked}
use Rattle.std.proofs.lemmas.Bool.{ltb-true, lt-ltb}
use Rattle.std.proofs.lemmas.Option.{none-some}
use Rattle.jvm_values.proofs.Options.{some_is}

-- a test that was asked came out
pub was_asked : {B : Type 0} (test : Bool) (f : Unit {0} → Option B) (c : B) → option_and_then f (asked test) ≡ Some c
    → (test ≡ true) × (f tt ≡ Some c)
was_asked true f c e = (refl, e)
was_asked false f c e = absurd (none-some c e)

pub zip_set : {A : Type 0} (R : A → A → Type 0) (xs ys : List A) (n : ℕ) (a b : A) → AllZip R xs ys → R a b
    → AllZip R (slice_set xs n a) (slice_set ys n b)
zip_set R [] [] n a b h r = tt
zip_set R [] (z ∷ ys) n a b h r = absurd h
zip_set R (x ∷ xs) [] n a b h r = absurd h
zip_set R (x ∷ xs) (z ∷ ys) zero a b h r = (r, h.1)
zip_set R (x ∷ xs) (z ∷ ys) (suc n) a b h r = (h.0, zip_set R xs ys n a b h.1 r)

pub all_at : {A : Type 0} (P : A → Type 0) (xs : List A) → All P xs → (n : ℕ) (x : A) → slice_get xs n ≡ Some x → P x
all_at P [] h n x e = absurd (none-some x e)
all_at P (y ∷ xs) h zero x e = subst P (some_is e) (h 0 y (omega arith))
all_at P (y ∷ xs) h (suc n) x e = all_at P xs (λ k d l. h (suc k) d (omega arith)) n x e
