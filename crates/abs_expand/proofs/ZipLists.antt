-- Lists whose items are related place by place.
use Rattle.std.proofs.Common.{◌≡◌, ℕ, zero, suc, List, [], ◌∷◌, ◌++◌, Some, slice_get, refl, sym, subst}
use Rattle.std.specs.List.{AllZip}
use Rattle.std.proofs.lemmas.Option.{none-some}
use Rattle.list_views.proofs.Zipped.{zip_more}
use Rattle.jvm_values.proofs.Options.{some_is}

-- what stands on the right at a place, beside an item
pub record Beside {A B : Type 0} (R : A → B → Type 0) (ys : List B) (n : ℕ) (x : A) : Type 0 where
  pub other : B
  pub there : slice_get ys n ≡ Some other
  pub alike : R x other

pub beside : {A B : Type 0} (R : A → B → Type 0) (xs : List A) (ys : List B) (n : ℕ) (x : A) → AllZip R xs ys
    → slice_get xs n ≡ Some x → Beside R ys n x
beside R [] ys n x all at = absurd (none-some x at)
beside R (z ∷ xs) [] n x all at = absurd all
beside R (z ∷ xs) (y ∷ ys) zero x all at = record { other = y; there = refl; alike = subst (λ w. R w y) (some_is at) all.0 }
beside R (z ∷ xs) (y ∷ ys) (suc n) x all at =
    let rest = beside R xs ys n x all.1 at in
    record { other = rest.other; there = rest.there; alike = rest.alike }

-- one item more on both sides
pub pushed : {A B : Type 0} (R : A → B → Type 0) (xs : List A) (ys more : List B) (x : A) (y : B) → more ≡ ys ++ y ∷ []
    → AllZip R xs ys → R x y → AllZip R (xs ++ x ∷ []) more
pushed R xs ys more x y is all alike = subst (AllZip R (xs ++ x ∷ [])) (sym is) (zip_more R xs ys x y all alike)
