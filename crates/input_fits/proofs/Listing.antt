-- Pairs that are listed.
use Rattle.std.proofs.Common.{◌≡◌, ◌<◌, ◌≤◌, ◌+◌, ℕ, zero, suc, List, [], ◌∷◌, length, get_or, drop, inl, inr, subst, sym}
use Rattle.std.proofs.Common.{arith}
use Rattle.std.proofs.lemmas.List.{drop_all}
use Rattle.input_desc.specs.Fitting.{IsListed}
use Rattle.input_fits.specs.inner.Words.{IsPairOf}

pub listed_here : (i j n : ℕ) (pairs : List (ℕ × ℕ)) (pair d : ℕ × ℕ) → n < length pairs → pair ≡ get_or pairs n d → IsPairOf i j pair
    → IsListed i j pairs
listed_here i j n [] pair d l e is = absurd (omega (arith, l))
listed_here i j zero (p ∷ pairs) pair d l e (inl is) = inl (subst (λ (q : ℕ × ℕ). (q.0 ≡ i) × (q.1 ≡ j)) e is)
listed_here i j zero (p ∷ pairs) pair d l e (inr is) = inr (inl (subst (λ (q : ℕ × ℕ). (q.0 ≡ j) × (q.1 ≡ i)) e is))
listed_here i j (suc n) (p ∷ pairs) pair d l e is = inr (inr (listed_here i j n pairs pair d (omega (arith, l)) e is))

-- what isn't the pair at a place is listed behind it
pub listed_behind : (i j n : ℕ) (pairs : List (ℕ × ℕ)) (pair d : ℕ × ℕ) → n < length pairs → pair ≡ get_or pairs n d
    → (IsPairOf i j pair → ⊥) → IsListed i j (drop n pairs) → IsListed i j (drop (n + 1) pairs)
listed_behind i j n [] pair d l e other h = absurd (omega (arith, l))
listed_behind i j zero (p ∷ pairs) pair d l e other (inl is) = absurd (other (inl (subst (λ (q : ℕ × ℕ). (q.0 ≡ i) × (q.1 ≡ j)) (sym e) is)))
listed_behind i j zero (p ∷ pairs) pair d l e other (inr (inl is)) = absurd
    (other (inr (subst (λ (q : ℕ × ℕ). (q.0 ≡ j) × (q.1 ≡ i)) (sym e) is)))
listed_behind i j zero (p ∷ pairs) pair d l e other (inr (inr h)) = h
listed_behind i j (suc n) (p ∷ pairs) pair d l e other h =
    let next : suc (n + 1) ≡ suc n + 1 = omega arith in
    subst (λ (m : ℕ). IsListed i j (drop m (p ∷ pairs))) next (listed_behind i j n pairs pair d (omega (arith, l)) e other h)

pub none_behind : (i j n : ℕ) (pairs : List (ℕ × ℕ)) → length pairs ≤ n → IsListed i j (drop n pairs) → ⊥
none_behind i j n pairs l h = subst (IsListed i j) (drop_all n pairs l) h

-- in either order
pub swapped : (i j : ℕ) (pairs : List (ℕ × ℕ)) → IsListed i j pairs → IsListed j i pairs
swapped i j [] h = absurd h
swapped i j (pair ∷ pairs) (inl h) = inr (inl h)
swapped i j (pair ∷ pairs) (inr (inl h)) = inl h
swapped i j (pair ∷ pairs) (inr (inr h)) = inr (inr (swapped i j pairs h))
