-- Lists that stand alike, place by place.
use Rattle.std.proofs.Common.{◌≡◌, ℕ, suc, ◌+◌, ◌<◌, ◌≤◌, List, [], ◌∷◌, length, get_or, reverse, sym, ap, subst, ◌∙◌, inl, inr, arith}
use Rattle.std.specs.List.{AllZip}
use Rattle.std.proofs.lemmas.Bool.{cases_lt}
use Rattle.std.proofs.lemmas.List.{reverse-reverse}
use Rattle.std.proofs.lemmas.Option.{slice_get-get_or, get_or_from_slice_get}
use Rattle.abs_widen.proofs.Zips.{all_reversed_as}

module _ {A B : Type 0} (R : A → B → Type 0) where
  -- what holds at each place holds of the lists
  pub all_placed : (xs : List A) (ys : List B) → length xs ≡ length ys
      → ((k : ℕ) (d : A) (e : B) → k < length xs → R (get_or xs k d) (get_or ys k e)) → AllZip R xs ys
  all_placed [] [] l h = tt
  all_placed [] (y ∷ ys) l h = absurd (omega (arith, l))
  all_placed (x ∷ xs) [] l h = absurd (omega (arith, l))
  all_placed (x ∷ xs) (y ∷ ys) l h =
      (h 0 x y (omega arith), all_placed xs ys (omega (arith, l)) (λ k d e m. h (suc k) d e (omega (arith, m))))

  pub all_gone : (xs : List A) (ys : List B) (n : ℕ) → length xs ≡ length ys → length xs ≤ n
      → ((k : ℕ) (d : A) (e : B) → k < n → R (get_or xs k d) (get_or ys k e)) → AllZip R xs ys
  all_gone xs ys n l m h = all_placed xs ys l (λ k d e low. h k d e (omega (arith, low, m)))

  -- one place more
  pub one_gone : (xs : List A) (ys : List B) (n : ℕ) (x : A) (y : B) → n < length xs → length xs ≡ length ys
      → R (get_or xs n x) (get_or ys n y)
      → ((k : ℕ) (d : A) (e : B) → k < n → R (get_or xs k d) (get_or ys k e)) → (k : ℕ) (d : A) (e : B) → k < n + 1
      → R (get_or xs k d) (get_or ys k e)
  one_gone xs ys n x y low long r h k d e l = elim (cases_lt k n) [
    | inl m ↦ h k d e m
    | inr m ↦
        let same : n ≡ k = omega (arith, l, m) in
        let low_too : n < length ys = omega (arith, low, long) in
        let first : get_or xs n d ≡ get_or xs n x = get_or_from_slice_get xs n (get_or xs n x) d (slice_get-get_or xs n x low) in
        let second : get_or ys n e ≡ get_or ys n y = get_or_from_slice_get ys n (get_or ys n y) e (slice_get-get_or ys n y low_too) in
        subst (λ (i : ℕ). R (get_or xs i d) (get_or ys i e)) same
        (subst (λ (u : A). R u (get_or ys n e)) (sym first) (subst (λ (v : B). R (get_or xs n x) v) (sym second) r))
  ]

  -- the lists turned
  pub all_turned : (xs us : List A) (ys vs : List B) → us ≡ reverse xs → vs ≡ reverse ys → AllZip R us vs → AllZip R xs ys
  all_turned xs us ys vs e f h =
      all_reversed_as R us vs xs ys (sym (reverse-reverse xs) ∙ ap reverse (sym e)) (sym (reverse-reverse ys) ∙ ap reverse (sym f)) h

  pub as_placed : (xs : List A) (ys : List B) (n : ℕ) (x : A) (y : B) → x ≡ get_or xs n x → y ≡ get_or ys n y → R x y
      → R (get_or xs n x) (get_or ys n y)
  as_placed xs ys n x y e f r = subst (λ (u : A). R u (get_or ys n y)) e (subst (R x) f r)

  pub as_read : (xs : List A) (ys : List B) (n : ℕ) (x : A) (y : B) → x ≡ get_or xs n x → y ≡ get_or ys n y
      → R (get_or xs n x) (get_or ys n y) → R x y
  as_read xs ys n x y e f r = subst (λ (u : A). R u y) (sym e) (subst (λ (v : B). R (get_or xs n x) v) (sym f) r)
