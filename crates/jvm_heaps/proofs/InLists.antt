-- What stands in a list of numbers, and what stands at a place of a list.
use Rattle.std.proofs.Common.{◌≡◌, ℕ, List, [], ◌∷◌, ◌++◌, Some, ◌⊎◌, inl, inr, refl, subst}
use Rattle.std.specs.Prelude.{All, slice_get}
use Rattle.std.proofs.lemmas.Option.{slice_get_within, get_or_from_slice_get}

abbrev pub IsIn : ℕ → List ℕ → Type 0
IsIn x [] = ⊥
IsIn x (y ∷ ys) = (x ≡ y) ⊎ IsIn x ys

pub In-left : (x : ℕ) (xs ys : List ℕ) → IsIn x xs → IsIn x (xs ++ ys)
In-left x [] ys h = absurd h
In-left x (z ∷ zs) ys (inl s) = inl s
In-left x (z ∷ zs) ys (inr t) = inr (In-left x zs ys t)

pub In-last : (x : ℕ) (xs : List ℕ) → IsIn x (xs ++ x ∷ [])
In-last x [] = inl refl
In-last x (z ∷ zs) = inr (In-last x zs)

pub In-push : (x b : ℕ) (xs : List ℕ) → IsIn x (xs ++ b ∷ []) → IsIn x xs ⊎ (x ≡ b)
In-push x b [] (inl s) = inr s
In-push x b [] (inr t) = absurd t
In-push x b (z ∷ zs) (inl s) = inl (inl s)
In-push x b (z ∷ zs) (inr t) = elim (In-push x b zs t) [ inl a ↦ inl (inr a) | inr s ↦ inr s ]
