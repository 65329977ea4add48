-- Items that meet only where they are listed.
use Rattle.std.proofs.Common.{◌≡◌, ◌<◌, ◌≤◌, ◌+◌, ◌∙◌, ℕ, List, length, get_or, slice_get, Some, inl, inr, refl, sym, subst, ap, arith}
use Rattle.std.proofs.lemmas.Bool.{cases_lt}
use Rattle.std.proofs.lemmas.Option.{get_or_from_slice_get, slice_get-get_or}
use Rattle.input_desc.specs.Fitting.{IsListed}
use Rattle.input_fits.specs.inner.Words.{AreListedWith, AreListedBefore}

module _ {A : Type 0} (Meets : A → A → Type 0) (xs : List A) (pairs : List (ℕ × ℕ)) where
  is_item : (n m : ℕ) (x y d : A) → m ≡ n → y ≡ get_or xs n d → slice_get xs m ≡ Some x → y ≡ x
  is_item n m x y d same is there = is ∙ get_or_from_slice_get xs n x d (ap (slice_get xs) (sym same) ∙ there)

  -- one place more
  pub one_listed : (i j : ℕ) (x y d e : A) → x ≡ get_or xs j d → y ≡ get_or xs i e → (Meets x y → IsListed j i pairs)
      → AreListedWith Meets xs pairs i j → AreListedWith Meets xs pairs i (j + 1)
  one_listed i j x y d e x_is y_is may before k v w l at_v at_w meets = elim (cases_lt k j) as (λ o. IsListed k i pairs) [
    | inl low ↦ before k v w low at_v at_w meets
    | inr high ↦
        let here : k ≡ j = omega (arith, l, high) in
        let same_x : x ≡ v = is_item j k v x d here x_is at_v in
        let same_y : y ≡ w = is_item i i w y e refl y_is at_w in
        subst (λ (n : ℕ). IsListed n i pairs) (sym here)
        (may (subst (λ (b : A). Meets x b) (sym same_y) (subst (λ (a : A). Meets a w) (sym same_x) meets)))
  ]

  pub not_listed : (i j : ℕ) (x y d e : A) → j < i → i < length xs → x ≡ get_or xs j d → y ≡ get_or xs i e
      → ((Meets x y → IsListed j i pairs) → ⊥) → AreListedWith Meets xs pairs i i → ⊥
  not_listed i j x y d e low within x_is y_is never all = never (λ meets. all j x y low
      (slice_get-get_or xs j d (omega (arith, low, within)) ∙ ap Some (sym x_is)) (slice_get-get_or xs i e within ∙ ap Some (sym y_is)) meets)

  pub one_row : (i : ℕ) → AreListedWith Meets xs pairs i i → AreListedBefore Meets xs pairs i → AreListedBefore Meets xs pairs (i + 1)
  one_row i row before k l = elim (cases_lt k i) as (λ o. AreListedWith Meets xs pairs k k) [
    | inl low ↦ before k low
    | inr high ↦
        let here : i ≡ k = omega (arith, l, high) in
        subst (λ (n : ℕ). AreListedWith Meets xs pairs n n) here row
  ]

  pub every_row : (i : ℕ) → length xs ≤ i → AreListedBefore Meets xs pairs i → AreListedBefore Meets xs pairs (length xs)
  every_row i l before k low = before k (omega (arith, l, low))
