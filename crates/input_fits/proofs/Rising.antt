-- Numbers that rise, and those that two lists have in common.
use Rattle.std.proofs.Common.{◌≡◌, ◌<◌, ◌≤◌, ◌+◌, ◌∙◌, ℕ, zero, suc, true, List, [], ◌∷◌, length, get_or, Result, Ok, Err}
use Rattle.std.proofs.Common.{sym, subst, arith, inl, inr, refl}
use Rattle.std.specs.Prelude.{Contains, ◌↔◌, is_ok}
use Rattle.std.proofs.lemmas.Bool.{cases_lt, false≢true}
use Rattle.std.specs.List.Sorted.{IsBinarySearchResult}
use Rattle.std.specs.Ordering.{nat_cmp}
use Rattle.std.proofs.lemmas.List.{get_or_default}
use Rattle.std.proofs.lemmas.List.Sorted.{searched}
use Rattle.jvm_heaps.specs.Regions.{RiseFrom}
use Rattle.input_fits.specs.inner.Words.{HaveCommon}

at_least : (low : ℕ) (xs : List ℕ) (j : ℕ) → RiseFrom low xs → j < length xs → low ≤ get_or xs j 0
at_least low [] j h l = absurd (omega (arith, l))
at_least low (x ∷ xs) zero h l = h.0
at_least low (x ∷ xs) (suc j) h l = let rest = at_least (suc x) xs j h.1 (omega (arith, l)) in let first = h.0 in
    omega (arith, rest, first)

pub in_order : (low : ℕ) (xs : List ℕ) (i j : ℕ) → RiseFrom low xs → i ≤ j → j < length xs → get_or xs i 0 ≤ get_or xs j 0
in_order low [] i j h k l = absurd (omega (arith, l))
in_order low (x ∷ xs) zero zero h k l = omega arith
in_order low (x ∷ xs) zero (suc j) h k l = let rest = at_least (suc x) xs j h.1 (omega (arith, l)) in omega (arith, rest)
in_order low (x ∷ xs) (suc i) zero h k l = absurd (omega (arith, k))
in_order low (x ∷ xs) (suc i) (suc j) h k l = in_order (suc x) xs i j h.1 (omega (arith, k)) (omega (arith, l))

-- ---- a search

pub searched_is : (xs : List ℕ) (x : ℕ) (r : Result ℕ ℕ) → RiseFrom 0 xs → IsBinarySearchResult (λ y. nat_cmp y x) xs r
    → (is_ok r ≡ true) ↔ Contains xs x
searched_is xs x (Ok i) rise p =
    let s = searched xs x (Ok i) p (λ k j. in_order 0 xs k j rise) in
    (λ e. (i, s.0, get_or_default xs i x 0 s.0 ∙ s.1), λ h. refl)
searched_is xs x (Err i) rise p =
    let s = searched xs x (Err i) p (λ k j. in_order 0 xs k j rise) in
    (λ e. absurd (false≢true e), λ h. absurd (apart s.1 s.2 h))
  where
    apart : ((k : ℕ) → k < i → get_or xs k 0 < x) → ((k : ℕ) → i ≤ k → k < length xs → x < get_or xs k 0) → Contains xs x → ⊥
    apart below above (k, l, e) =
        let here : get_or xs k 0 ≡ x = get_or_default xs k 0 x l ∙ e in
        elim (cases_lt k i) as (λ o. ⊥) [
          | inl low ↦ let less = below k low in omega (arith, less, here)
          | inr high ↦ let more = above k high l in omega (arith, more, here)
        ]

-- ---- numbers in common

-- none of the first so many numbers stands in the other list
abbrev pub NoneCommon : List ℕ → List ℕ → ℕ → Type 0
NoneCommon a b count = (k : ℕ) → k < count → Contains b (get_or a k 0) → ⊥

pub none_more : (a b : List ℕ) (n x : ℕ) → x ≡ get_or a n 0 → (Contains b x → ⊥) → NoneCommon a b n → NoneCommon a b (n + 1)
none_more a b n x e never before k low h = elim (cases_lt k n) as (λ o. ⊥) [
  | inl less ↦ before k less h
  | inr high ↦
      let here : k ≡ n = omega (arith, low, high) in
      never (subst (Contains b) (sym e) (subst (λ (m : ℕ). Contains b (get_or a m 0)) here h))
]

pub common_here : (a b : List ℕ) (n x : ℕ) → n < length a → x ≡ get_or a n 0 → Contains b x → HaveCommon a b
common_here a b n x l e h = (x, ((n, l, get_or_default a n x 0 l ∙ sym e), h))

pub none_common : (a b : List ℕ) (n : ℕ) → length a ≤ n → NoneCommon a b n → HaveCommon a b → ⊥
none_common a b n l before (o, ((k, low, e), h)) = before k (omega (arith, low, l))
    (subst (Contains b) (sym (get_or_default a k 0 o low ∙ e)) h)
