-- Lists with one item replaced, by what stands at a place.
use Rattle.std.proofs.Common.{◌≡◌, ℕ, zero, suc, List, [], ◌∷◌, Some, ◌⊎◌, inl, inr, refl, sym, ap}
use Rattle.std.specs.Prelude.{slice_get, slice_set}
use Rattle.jvm_values.proofs.Options.{some_is}

-- an item after one was replaced is the old one, or it is at the place and the new one
pub get_set_cases : {X : Type 0} (xs : List X) (i : ℕ) (v : X) (j : ℕ) (y : X) → slice_get (slice_set xs i v) j ≡ Some y
    → (slice_get xs j ≡ Some y) ⊎ ((j ≡ i) × (y ≡ v))
get_set_cases [] i v j y e = inl e
get_set_cases (x ∷ xs) zero v zero y e = inr (refl, sym (some_is e))
get_set_cases (x ∷ xs) zero v (suc j) y e = inl e
get_set_cases (x ∷ xs) (suc i) v zero y e = inl e
get_set_cases (x ∷ xs) (suc i) v (suc j) y e = elim (get_set_cases xs i v j y e) [ inl h ↦ inl h | inr h ↦ inr (ap suc h.0, h.1) ]

pub get_set_other : {X : Type 0} (xs : List X) (i j : ℕ) (v : X) → (j ≡ i → ⊥) → slice_get (slice_set xs i v) j ≡ slice_get xs j
get_set_other [] i j v h = refl
get_set_other (x ∷ xs) zero zero v h = absurd (h refl)
get_set_other (x ∷ xs) zero (suc j) v h = refl
get_set_other (x ∷ xs) (suc i) zero v h = refl
get_set_other (x ∷ xs) (suc i) (suc j) v h = get_set_other xs i j v (λ e. h (ap suc e))
