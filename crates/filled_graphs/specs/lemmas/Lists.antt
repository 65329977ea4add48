-- Lists by place.
use Rattle.std.proofs.Common.{◌≡◌, ◌<◌, ◌∙◌, ◌+◌, ℕ, zero, suc, List, [], ◌∷◌, ◌++◌, map, length, Some, slice_get, slice_set, ◌⊎◌}
use Rattle.std.proofs.Common.{inl, inr, refl}
use Rattle.std.proofs.Common.{sym, ap, arith}
use Rattle.std.specs.Option.{option_map}
use Rattle.std.proofs.lemmas.Option.{none-some}
use Rattle.jvm_values.proofs.Options.{some_is}

-- lists of one length with the same items are one
pub same_items : {A : Type 0} (xs ys : List A) → length xs ≡ length ys
    → ((n : ℕ) (x y : A) → slice_get xs n ≡ Some x → slice_get ys n ≡ Some y → x ≡ y) → xs ≡ ys
same_items [] [] e same = refl
same_items [] (y ∷ ys) e same = absurd (omega (arith, e))
same_items (x ∷ xs) [] e same = absurd (omega (arith, e))
same_items (x ∷ xs) (y ∷ ys) e same =
    ap (λ z. z ∷ xs) (same 0 x y refl refl) ∙ ap (λ zs. y ∷ zs) (same_items xs ys (omega (arith, e)) (λ n. same (suc n)))

-- an item of a list with one more is an old one, or the new one
pub in_more : {A : Type 0} (front : List A) (x y : A) (n : ℕ) → slice_get (front ++ x ∷ []) n ≡ Some y
    → (slice_get front n ≡ Some y) ⊎ ((n ≡ length front) × (y ≡ x))
in_more [] x y zero at = inr (refl, sym (some_is at))
in_more [] x y (suc n) at = absurd (none-some y at)
in_more (z ∷ front) x y zero at = inl at
in_more (z ∷ front) x y (suc n) at = elim (in_more front x y n at) [
  | inl l ↦ inl l
  | inr r ↦ inr (ap suc r.0, r.1)
]

-- an item of a list and that of its images
pub image_at : {A B : Type 0} (f : A → B) (xs : List A) (n : ℕ) (x : A) → slice_get xs n ≡ Some x → slice_get (map f xs) n ≡ Some (f x)
image_at f [] n x at = absurd (none-some x at)
image_at f (y ∷ xs) zero x at = ap Some (ap f (some_is at))
image_at f (y ∷ xs) (suc n) x at = image_at f xs n x at

pub mapped_of : {A B : Type 0} (f : A → B) (xs : List A) (n : ℕ) → slice_get (map f xs) n ≡ option_map f (slice_get xs n)
mapped_of f [] n = refl
mapped_of f (x ∷ xs) zero = refl
mapped_of f (x ∷ xs) (suc n) = mapped_of f xs n

pub set_other : {A : Type 0} (xs : List A) (n k : ℕ) (x : A) → (n ≡ k → ⊥) → slice_get (slice_set xs n x) k ≡ slice_get xs k
set_other [] n k x d = refl
set_other (y ∷ xs) zero zero x d = absurd (d refl)
set_other (y ∷ xs) zero (suc k) x d = refl
set_other (y ∷ xs) (suc n) zero x d = refl
set_other (y ∷ xs) (suc n) (suc k) x d = set_other xs n k x (λ e. d (ap suc e))
