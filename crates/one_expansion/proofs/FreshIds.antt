-- Fresh ids are one list: rising lists with the same members are equal, and so are as many of the least free numbers.
use Rattle.std.proofs.Common.{◌≡◌, ◌<◌, ◌≤◌, ◌∙◌, ◌⊎◌, ◌↔◌, ℕ, zero, suc, true, List, [], ◌∷◌, length, slice_index_or, None, inl}
use Rattle.std.proofs.Common.{inr, refl, sym, ap, arith}
use Rattle.std.specs.List.{All, Contains}
use Rattle.std.proofs.lemmas.List.Elements.{All-contains}
use Rattle.std.proofs.lemmas.Option.{none-some}
use Rattle.list_views.proofs.Orders.{neither_below}
use Rattle.abs_cells.specs.AbstractStates.{AbstractState}
use Rattle.abs_cells.specs.Cells.{cell_at, HasCell}
use Rattle.abs_expand.specs.AbsHeapGiven.{AreRising, AreFresh}

-- ---- members

first_in : (x : ℕ) (xs : List ℕ) → Contains (x ∷ xs) x
first_in x xs = (0, omega arith, refl)

later_in : (y : ℕ) (xs : List ℕ) (x : ℕ) → Contains xs x → Contains (y ∷ xs) x
later_in y xs x c = let l = c.1 in (suc c.0, omega (arith, l), c.2)

none_in : (x : ℕ) → Contains [] x → ⊥
none_in x c = let l = c.1 in omega (arith, l)

first_or_later : (y : ℕ) (xs : List ℕ) (x : ℕ) → Contains (y ∷ xs) x → (y ≡ x) ⊎ Contains xs x
first_or_later y xs x c = at c.0 c.1 c.2
  where
    at : (k : ℕ) → k < length (y ∷ xs) → slice_index_or (y ∷ xs) k x ≡ x → (y ≡ x) ⊎ Contains xs x
    at zero l e = inl e
    at (suc k) l e = inr (k, omega (arith, l), e)

-- ---- rising lists

above_first : (n : ℕ) (xs : List ℕ) → AreRising (n ∷ xs) → (x : ℕ) → Contains xs x → n < x
above_first n [] r x c = absurd (none_in x c)
above_first n (m ∷ xs) r x c =
    let l = r.0 in
    elim (first_or_later m xs x c) [
      | inl e ↦ omega (arith, l, e)
      | inr k ↦ let h = above_first m xs r.1 x k in omega (arith, l, h)
    ]

not_in : (x y : ℕ) (ys : List ℕ) → AreRising (y ∷ ys) → x < y → Contains (y ∷ ys) x → ⊥
not_in x y ys r l c = elim (first_or_later y ys x c) [
  | inl e ↦ omega (arith, l, e)
  | inr k ↦ let h = above_first y ys r x k in omega (arith, l, h)
]

pub rising_one : (xs ys : List ℕ) → AreRising xs → AreRising ys → ((x : ℕ) → Contains xs x ↔ Contains ys x) → xs ≡ ys
rising_one [] [] r s same = refl
rising_one [] (y ∷ ys) r s same = absurd (none_in y ((same y).1 (first_in y ys)))
rising_one (x ∷ xs) [] r s same = absurd (none_in x ((same x).0 (first_in x xs)))
rising_one (x ∷ xs) (y ∷ ys) r s same =
    let e : x ≡ y =
    neither_below x y (λ l. not_in x y ys s l ((same x).0 (first_in x xs))) (λ l. not_in y x xs r l ((same y).1 (first_in y ys))) in
    let there : (z : ℕ) → Contains xs z → Contains ys z = λ z c. elim (first_or_later y ys z ((same z).0 (later_in x xs z c))) [
      | inl f ↦ let l = above_first x xs r z c in absurd (omega (arith, l, e, f))
      | inr k ↦ k
    ] in
    let here : (z : ℕ) → Contains ys z → Contains xs z = λ z c. elim (first_or_later x xs z ((same z).1 (later_in y ys z c))) [
      | inl f ↦ let l = above_first y ys s z c in absurd (omega (arith, l, e, f))
      | inr k ↦ k
    ] in
    ap (λ n. n ∷ xs) e ∙ ap (λ zs. y ∷ zs) (rising_one xs ys r.1 s.1 (λ z. (there z, here z)))

-- ---- the least free numbers

-- numbers from one on that are the least that aren't taken
record IsFreshFrom (taken : ℕ → Type 0) (low : ℕ) (ids : List ℕ) : Type 0 where
  rise : AreRising ids
  above : (id : ℕ) → Contains ids id → low ≤ id
  free : (id : ℕ) → Contains ids id → taken id → ⊥
  least : (id m : ℕ) → Contains ids id → low ≤ m → m < id → taken m ⊎ Contains ids m

fresh_rest : (taken : ℕ → Type 0) (low x : ℕ) (xs : List ℕ) → IsFreshFrom taken low (x ∷ xs) → IsFreshFrom taken (suc x) xs
fresh_rest taken low x xs f = record {
  rise = f.rise.1;
  above = λ id c. let l = above_first x xs f.rise id c in omega (arith, l);
  free = λ id c. f.free id (later_in x xs id c);
  least = λ id m c l h.
      let first = f.above x (first_in x xs) in
      elim (f.least id m (later_in x xs id c) (omega (arith, l, first)) h) [
        | inl t ↦ inl t
        | inr k ↦ elim (first_or_later x xs m k) [ inl e ↦ absurd (omega (arith, l, e)) | inr q ↦ inr q ]
      ];
}

not_fresher : (taken : ℕ → Type 0) (low x y : ℕ) (xs ys : List ℕ) → IsFreshFrom taken low (x ∷ xs) → IsFreshFrom taken low (y ∷ ys)
    → x < y → ⊥
not_fresher taken low x y xs ys f g l = elim (g.least y x (first_in y ys) (f.above x (first_in x xs)) l) [
  | inl t ↦ f.free x (first_in x xs) t
  | inr c ↦ not_in x y ys g.rise l c
]

fresh_same : (taken : ℕ → Type 0) (low : ℕ) (xs ys : List ℕ) → length xs ≡ length ys → IsFreshFrom taken low xs
    → IsFreshFrom taken low ys → xs ≡ ys
fresh_same taken low [] [] e f g = refl
fresh_same taken low [] (y ∷ ys) e f g = absurd (omega (arith, e))
fresh_same taken low (x ∷ xs) [] e f g = absurd (omega (arith, e))
fresh_same taken low (x ∷ xs) (y ∷ ys) e f g =
    let s : x ≡ y = neither_below x y (not_fresher taken low x y xs ys f g) (not_fresher taken low y x ys xs g f) in
    let rest : IsFreshFrom taken (suc x) ys = subst_first s (fresh_rest taken low y ys g) in
    ap (λ n. n ∷ xs) s ∙ ap (λ zs. y ∷ zs) (fresh_same taken (suc x) xs ys (omega (arith, e)) (fresh_rest taken low x xs f) rest)
  where
    subst_first : x ≡ y → IsFreshFrom taken (suc y) ys → IsFreshFrom taken (suc x) ys
    subst_first s h = record {
      rise = h.rise;
      above = λ id c. let l = h.above id c in omega (arith, l, s);
      free = h.free;
      least = λ id m c l k. h.least id m c (omega (arith, l, s)) k;
    }

fresh_over : (state : AbstractState) (ids : List ℕ) → AreFresh state ids → IsFreshFrom (HasCell (λ _. true) state) 0 ids
fresh_over state ids f = record {
  rise = f.rise;
  above = λ id c. omega arith;
  free = λ id c h. none-some h.cell (sym (All-contains (λ n. cell_at state n ≡ None) ids id f.free c) ∙ h.is);
  least = λ id m c l k. f.least id m c k;
}

-- as many fresh ids of a state are the same ones
pub fresh_one : (state : AbstractState) (xs ys : List ℕ) → length xs ≡ length ys → AreFresh state xs → AreFresh state ys → xs ≡ ys
fresh_one state xs ys e f g = fresh_same (HasCell (λ _. true) state) 0 xs ys e (fresh_over state xs f) (fresh_over state ys g)

pub first_same : (x y : ℕ) (xs ys : List ℕ) → x ∷ xs ≡ y ∷ ys → x ≡ y
first_same x y xs ys e = ap (λ zs. slice_index_or zs 0 x) e

pub rest_same : (x y : ℕ) (xs ys : List ℕ) → x ∷ xs ≡ y ∷ ys → xs ≡ ys
rest_same x y xs ys e = cc

-- a single one
pub fresh_id_one : (state : AbstractState) (id other : ℕ) → AreFresh state (id ∷ []) → AreFresh state (other ∷ []) → id ≡ other
fresh_id_one state id other f g = first_same id other [] [] (fresh_one state (id ∷ []) (other ∷ []) refl f g)
