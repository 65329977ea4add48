-- Wanted pairs, put among others one after another.
use Rattle.std.proofs.Common.{◌≡◌, ◌⊎◌, ℕ, ◌+◌, ◌<◌, ◌≤◌, ◌==◌, min, max, true, List, [], sym, subst, ◌∙◌, inl, inr, arith, eq-eqb}
use Rattle.std.proofs.lemmas.Bool.{or_cases, or_left, or_right, and_parts, and_from, eqb-true, false≢true, cases_eq, cases_lt}
use Rattle.abs_cells.specs.PairLists.{pair_of, is_same, IsRising, has, added}
use Rattle.abs_cells.proofs.PackedLaws.{has_with}
use Rattle.abs_widen.specs.inner.Pairing.{IsPast, AreJoinedTo, AreJoined, IsPut}

-- two unordered pairs whose lower numbers are known
same_ordered : (i j m n : ℕ) → i < j → m < n → is_same (pair_of i j) (pair_of m n) ≡ true → (i ≡ m) × (j ≡ n)
same_ordered i j m n l k e =
    let parts = and_parts (min i j == min m n) (max i j == max m n) e in
    let low : min i j ≡ min m n = eqb-true (min i j) (min m n) parts.0 in
    let high : max i j ≡ max m n = eqb-true (max i j) (max m n) parts.1 in
    (omega (arith, l, k, low, high), omega (arith, l, k, low, high))

same_pair : (i j m n : ℕ) → i ≡ m → j ≡ n → is_same (pair_of i j) (pair_of m n) ≡ true
same_pair i j m n e f =
    and_from (min i j == min m n) (max i j == max m n) (eq-eqb (min i j) (min m n) (omega (arith, e, f)))
    (eq-eqb (max i j) (max m n) (omega (arith, e, f)))

module _ (wants : ℕ → ℕ → Type 0) where
  past_more : (n m i j : ℕ) → IsPast n m i j → IsPast n (m + 1) i j
  past_more n m i j (inl l) = inl l
  past_more n m i j (inr h) = let l = h.1 in inr (h.0, omega (arith, l))

  -- what is past by one turn more is past already, or is this pair
  past_less : (n m i j : ℕ) → IsPast n (m + 1) i j → IsPast n m i j ⊎ ((i ≡ m) × (j ≡ n))
  past_less n m i j (inl l) = inl (inl l)
  past_less n m i j (inr h) = elim (cases_eq i m) [
    | inl e ↦ inr (e, h.0)
    | inr d ↦ inl (inr (
      h.0,
      (let l = h.1 in elim (cases_lt i m) [
        | inl k ↦ k
        | inr k ↦ absurd (d (omega (arith, l, k)))
      ]),
    ))
  ]

  joined_put : (n m : ℕ) (old : List (ℕ × ℕ)) → m < n → wants m n → AreJoinedTo wants n m old → AreJoinedTo wants n (m + 1) (added m n old)
  joined_put n m old l w to i j k = (
    λ h. elim (or_cases (is_same (pair_of i j) (pair_of m n)) (has i j old) (sym (has_with (pair_of i j) (pair_of m n) old) ∙ h)) [
      | inl s ↦
          let same = same_ordered i j m n k l s in
          let e = same.0 in
          (inr (same.1, omega (arith, e)), subst (λ (x : ℕ). wants x j) (sym same.0) (subst (wants m) (sym same.1) w))
      | inr o ↦ let before = (to i j k).0 o in (past_more n m i j before.0, before.1)
    ],
    λ h. has_with (pair_of i j) (pair_of m n) old ∙ (elim (past_less n m i j h.0) [
      | inl p ↦ or_right (is_same (pair_of i j) (pair_of m n)) (has i j old) ((to i j k).1 (p, h.1))
      | inr e ↦ or_left (is_same (pair_of i j) (pair_of m n)) (has i j old) (same_pair i j m n e.0 e.1)
    ]),
  )

  joined_not : (n m : ℕ) (old : List (ℕ × ℕ)) → (wants m n → ⊥) → AreJoinedTo wants n m old → AreJoinedTo wants n (m + 1) old
  joined_not n m old not to i j k = (
    λ h. let before = (to i j k).0 h in (past_more n m i j before.0, before.1),
    λ h. elim (past_less n m i j h.0) [
      | inl p ↦ (to i j k).1 (p, h.1)
      | inr e ↦ absurd (not (subst (λ (x : ℕ). wants x n) e.0 (subst (wants i) e.1 h.1)))
    ],
  )

  pub joined_more : (n m : ℕ) (old new : List (ℕ × ℕ)) → m < n → IsPut wants m n old new → AreJoinedTo wants n m old
      → AreJoinedTo wants n (m + 1) new
  joined_more n m old new l (inl put) to = subst (AreJoinedTo wants n (m + 1)) (sym put.1) (joined_put n m old l put.0 to)
  joined_more n m old new l (inr put) to = subst (AreJoinedTo wants n (m + 1)) (sym put.1) (joined_not n m old put.0 to)

  pub joined_none : AreJoinedTo wants 0 0 []
  joined_none i j k = (
    λ h. absurd (false≢true h),
    λ h. elim h.0 [
      | inl l ↦ absurd (omega (arith, l))
      | inr e ↦ let l = e.1 in absurd (omega (arith, l))
    ],
  )

  -- a row is gone through
  pub joined_row : (n m : ℕ) (list : List (ℕ × ℕ)) → n ≤ m → AreJoinedTo wants n m list → AreJoinedTo wants (n + 1) 0 list
  joined_row n m list l to i j k = (
    λ h. let before = (to i j k).0 h in (
      (elim before.0 [
        | inl p ↦ inl (omega (arith, p))
        | inr e ↦ let f = e.0 in inl (omega (arith, f))
      ]),
      before.1,
    ),
    λ h. (to i j k).1 (
      (elim h.0 [
        | inl p ↦ elim (cases_lt j n) [
          | inl q ↦ inl q
          | inr q ↦ inr (omega (arith, p, q), omega (arith, p, q, k, l))
        ]
        | inr e ↦ let f = e.1 in absurd (omega (arith, f))
      ]),
      h.1,
    ),
  )

  -- a row in which nothing is wanted
  pub joined_skip : (n : ℕ) (list : List (ℕ × ℕ)) → ((i : ℕ) → wants i n → ⊥) → AreJoinedTo wants n 0 list
      → AreJoinedTo wants (n + 1) 0 list
  joined_skip n list none to i j k = (
    λ h. let before = (to i j k).0 h in (
      (elim before.0 [
        | inl p ↦ inl (omega (arith, p))
        | inr e ↦ let f = e.1 in absurd (omega (arith, f))
      ]),
      before.1,
    ),
    λ h. (to i j k).1 (
      (elim (cases_eq j n) [
        | inl e ↦ absurd (none i (subst (wants i) e h.1))
        | inr d ↦ elim h.0 [
          | inl p ↦ inl (omega (arith, p, d))
          | inr e ↦ let f = e.1 in absurd (omega (arith, f))
        ]
      ]),
      h.1,
    ),
  )

  -- all rows are
  pub joined_all : (n : ℕ) (list : List (ℕ × ℕ)) → ((i j : ℕ) → wants i j → j < n) → IsRising list → AreJoinedTo wants n 0 list
      → AreJoined wants list
  joined_all n list below rising to = record {
    each = λ i j k. (λ h. ((to i j k).0 h).1, λ w. (to i j k).1 (inl (below i j w), w));
    rising = rising;
  }
