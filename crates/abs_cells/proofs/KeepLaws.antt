-- Pairs that are kept: those whose ids are both in a set.
use Rattle.std.proofs.Common.{◌≡◌, ◌≢◌, ℕ, ◌+◌, ◌<◌, ◌≤◌, ◌&&◌, ◌||◌, not, Bool, true, false, cond, List, [], ◌∷◌, Option, None}
use Rattle.std.proofs.Common.{◌⊎◌, inl, inr, refl, sym, ap, subst, ◌∙◌, arith}
use Rattle.std.specs.Prelude.{filter, min, max}
use Rattle.std.proofs.lemmas.Bool.{false≢true, cases_lt, and_parts, and_from, cases_Bool, not-true}
use Rattle.jvm_values.proofs.list_views.Truths.{same_truth}
use Rattle.abs_cells.specs.PairLists.{pair_of, is_same, is_before, IsFirst, IsRising, has_pair, removed}
use Rattle.abs_cells.specs.IdSets.{has_id, kept}
use Rattle.abs_cells.specs.PackedBits.{slot_of, pairs_in}
use Rattle.abs_cells.specs.inner.PackedRows.{IsCleared, IsKeptTo}
use Rattle.abs_cells.proofs.PairLaws.{same_is, is_same_from, is_before_from, before_is, onward}
use Rattle.abs_cells.proofs.PackedLaws.{is_one_list, has_without, packed_has, no_hit}
use Rattle.abs_cells.proofs.PackedCalls.{left_no_hit}
use Rattle.abs_cells.proofs.Checking.{low_pair}

-- ---- one id

pub cleared_none : (a : ℕ) (pairs : List (ℕ × ℕ)) → IsCleared pairs pairs a 0
cleared_none a pairs = record { gone = λ p l h. (h, (λ e. omega arith, λ e. omega arith)); kept = λ p l h f s. h }

pair_is : (a b : ℕ) (p : ℕ × ℕ) → p.0 < p.1 → p.0 ≡ a → p.1 ≡ b → is_same p (pair_of a b) ≡ true
pair_is a b p l e f = is_same_from p (pair_of a b) (same (sym e) (sym f))
  where
    same : a ≡ p.0 → b ≡ p.1 → p ≡ pair_of a b
    same e f = sym (ap (λ (x : ℕ). pair_of x b) e ∙ ap (λ (y : ℕ). pair_of p.0 y) f ∙ low_pair p l)

pair_turned : (a b : ℕ) → pair_of a b ≡ pair_of b a
pair_turned a b = ap (λ (x : ℕ). (x, max a b)) m ∙ ap (λ (y : ℕ). (min b a, y)) n
  where
    m : min a b ≡ min b a
    m = omega arith

    n : max a b ≡ max b a
    n = omega arith

not_pair : (a b : ℕ) (p : ℕ × ℕ) → not (is_same p (pair_of a b)) ≡ true → is_same p (pair_of a b) ≡ true → ⊥
not_pair a b p h k = false≢true (sym (not-true (is_same p (pair_of a b)) h) ∙ k)

pub cleared_one : (a b : ℕ) (old pairs now : List (ℕ × ℕ)) → a ≢ b → IsRising pairs → now ≡ removed a b pairs
    → IsCleared old pairs a b → IsCleared old now a (b + 1)
cleared_one a b old pairs now d r e c = record {
  gone = λ p l h.
      let k = and_parts (not (is_same p (pair_of a b))) (has_pair p pairs) (sym (has_without p (pair_of a b) pairs r)
      ∙ ap (has_pair p) (sym e) ∙ h) in
      let g = c.gone p l k.1 in (
        g.0,
        (
          λ f.
              let n : p.1 ≡ b → ⊥ = λ m. not_pair a b p k.0 (pair_is a b p l f m) in
              let o = g.1.0 f in
              omega (arith, n, o),
          λ f.
              let n : p.0 ≡ b → ⊥ = λ m. not_pair a b p k.0 (ap (is_same p) (pair_turned a b) ∙ pair_is b a p l m f) in
              let o = g.1.1 f in
              omega (arith, n, o),
        ),
      );
  kept = λ p l h f s.
      ap (has_pair p) e ∙ has_without p (pair_of a b) pairs r
      ∙ and_from (not (is_same p (pair_of a b))) (has_pair p pairs) (differs p l f s)
      (c.kept p l h (λ x. let o = f x in omega (arith, o)) (λ x. let o = s x in omega (arith, o)));
}
  where
    differs : (p : ℕ × ℕ) → p.0 < p.1 → (p.0 ≡ a → b + 1 ≤ p.1) → (p.1 ≡ a → b + 1 ≤ p.0) → not (is_same p (pair_of a b)) ≡ true
    differs p l f s = elim (cases_Bool (is_same p (pair_of a b))) [
      | inr n ↦ ap not n
      | inl y ↦ elim (cases_lt a b) [
        | inl m ↦
            let is : p ≡ (a, b) = same_is p (pair_of a b) y ∙ low_pair (a, b) m in
            let first : p.0 ≡ a = ap (λ (q : ℕ × ℕ). q.0) is in
            let second : p.1 ≡ b = ap (λ (q : ℕ × ℕ). q.1) is in
            let o = f first in
            absurd (omega (arith, o, second))
        | inr m ↦
            let low : b < a = omega (arith, m, d) in
            let is : p ≡ (b, a) = same_is p (pair_of a b) y ∙ pair_turned a b ∙ low_pair (b, a) low in
            let first : p.0 ≡ b = ap (λ (q : ℕ × ℕ). q.0) is in
            let second : p.1 ≡ a = ap (λ (q : ℕ × ℕ). q.1) is in
            let o = s second in
            absurd (omega (arith, o, first))
      ]
    ]

-- the id itself is no partner of its own
pub cleared_over : (a b : ℕ) (old pairs : List (ℕ × ℕ)) → b ≡ a → IsCleared old pairs a b → IsCleared old pairs a (b + 1)
cleared_over a b old pairs e c = record {
  gone = λ p l h.
      let g = c.gone p l h in
      (g.0, (λ f. let o = g.1.0 f in omega (arith, o, l, f, e), λ f. let o = g.1.1 f in absurd (omega (arith, o, l, f, e))));
  kept = λ p l h f s. c.kept p l h (λ x. let o = f x in omega (arith, o)) (λ x. let o = s x in omega (arith, o));
}

-- ---- all ids

low_of : (xs : List (ℕ × ℕ)) (p : ℕ × ℕ) → IsRising xs → has_pair p xs ≡ true → p.1 < 2048
low_of [] p r k = absurd (false≢true k)
low_of (x ∷ xs) p r k = elim (cases_Bool (is_same p x)) [
  | inl s ↦ subst (λ (q : ℕ × ℕ). q.1 < 2048) (sym (same_is p x s)) r.0.1
  | inr s ↦ low_of xs p r.1.1 (sym (ap (λ (b : Bool). b || has_pair p xs) s) ∙ k)
]

pub kept_none : (ids : List ℕ) (pairs : List (ℕ × ℕ)) → IsKeptTo ids pairs pairs 0
kept_none ids pairs = record {
  gone = λ p l h. (h, (λ e. absurd (omega (arith, e)), λ e. absurd (omega (arith, e))));
  kept = λ p l h
      f s. h;
}

-- an id that is in the set, or has no pair
pub kept_over : (ids : List ℕ) (old pairs : List (ℕ × ℕ)) (a : ℕ)
    → ((p : ℕ × ℕ) → p.0 < p.1 → has_pair p pairs ≡ true → (p.0 ≡ a → has_id ids a ≡ true) × (p.1 ≡ a → has_id ids a ≡ true))
    → IsKeptTo ids old pairs a → IsKeptTo ids old pairs (a + 1)
kept_over ids old pairs a here k = record {
  gone = λ p l h.
      let g = k.gone p l h in
      let x = here p l h in
      (g.0, (at_most p.0 g.1.0 x.0, at_most p.1 g.1.1 x.1));
  kept = λ p l h f s. k.kept p l h (λ x. f (omega (arith, x))) (λ x. s (omega (arith, x)));
}
  where
    at_most : (n : ℕ) → (n < a → has_id ids n ≡ true) → (n ≡ a → has_id ids a ≡ true) → n < a + 1 → has_id ids n ≡ true
    at_most n below same l = elim (cases_lt n a) [
      | inl m ↦ below m
      | inr m ↦ let e : n ≡ a = omega (arith, l, m) in ap (has_id ids) e ∙ same e
    ]

-- an id that is not in the set, whose pairs went
pub kept_less : (ids : List ℕ) (old pairs now : List (ℕ × ℕ)) (a : ℕ) → has_id ids a ≡ false → IsRising pairs → IsRising now
    → IsCleared pairs now a 2048 → IsKeptTo ids old pairs a → IsKeptTo ids old now (a + 1)
kept_less ids old pairs now a out r s c k = record {
  gone = λ p l h.
      let g = c.gone p l h in
      let n = low_of now p s h in
      let first : p.0 ≡ a → ⊥ = λ e. let o = g.1.0 e in omega (arith, o, n) in
      let second : p.1 ≡ a → ⊥ = λ e. let o = g.1.1 e in omega (arith, o, n, l) in
      let j = k.gone p l g.0 in
      (j.0, (λ x. j.1.0 (omega (arith, x, first)), λ x. j.1.1 (omega (arith, x, second))));
  kept = λ p l h f t.
      let first : p.0 ≡ a → ⊥ = λ e. false≢true (sym out ∙ ap (has_id ids) (sym e) ∙ f (omega (arith, e))) in
      let second : p.1 ≡ a → ⊥ = λ e. false≢true (sym out ∙ ap (has_id ids) (sym e) ∙ t (omega (arith, e))) in
      c.kept p l (k.kept p l h (λ x. f (omega (arith, x))) (λ x. t (omega (arith, x)))) (λ e. absurd (first e)) (λ e. absurd (second e));
}

-- ---- the end

pub has_filter : (test : ℕ × ℕ → Bool) (p : ℕ × ℕ) (xs : List (ℕ × ℕ)) → has_pair p (filter test xs) ≡ (test p && has_pair p xs)
has_filter test p [] = off (test p)
  where
    off : (b : Bool) → false ≡ (b && false)
    off true = refl
    off false = refl
has_filter test p (x ∷ xs) = elim (cases_Bool (test x)) [
  | inl t ↦ ap (λ (b : Bool). has_pair p (cond b (x ∷ filter test xs) (filter test xs))) t
      ∙ ap (λ (b : Bool). is_same p x || b) (has_filter test p xs) ∙ with_first (cases_Bool (is_same p x)) t
  | inr t ↦ ap (λ (b : Bool). has_pair p (cond b (x ∷ filter test xs) (filter test xs))) t ∙ has_filter test p xs
      ∙ without_first (cases_Bool (is_same p x)) t
]
  where
    with_first : (is_same p x ≡ true) ⊎ (is_same p x ≡ false) → test x ≡ true
        → (is_same p x || (test p && has_pair p xs)) ≡ (test p && (is_same p x || has_pair p xs))
    with_first (inl s) t =
        let u : test p ≡ true = ap test (same_is p x s) ∙ t in
        ap (λ (b : Bool). b || (test p && has_pair p xs)) s
        ∙ sym (ap (λ (b : Bool). test p && (b || has_pair p xs)) s ∙ ap (λ (b : Bool). b && true) u)
    with_first (inr s) t = ap (λ (b : Bool). b || (test p && has_pair p xs)) s ∙ sym (ap (λ (b : Bool). test p && (b || has_pair p xs)) s)

    without_first : (is_same p x ≡ true) ⊎ (is_same p x ≡ false) → test x ≡ false
        → (test p && has_pair p xs) ≡ (test p && (is_same p x || has_pair p xs))
    without_first (inl s) t =
        let u : test p ≡ false = ap test (same_is p x s) ∙ t in
        ap (λ (b : Bool). b && has_pair p xs) u ∙ sym (ap (λ (b : Bool). b && (is_same p x || has_pair p xs)) u)
    without_first (inr s) t = sym (ap (λ (b : Bool). test p && (b || has_pair p xs)) s)

first_filter : (test : ℕ × ℕ → Bool) (x : ℕ × ℕ) (xs : List (ℕ × ℕ)) → IsFirst x xs → IsRising xs → IsFirst x (filter test xs)
first_filter test x [] f r = tt
first_filter test x (y ∷ xs) f r = elim (cases_Bool (test y)) [
  | inl t ↦ subst (λ (b : Bool). IsFirst x (cond b (y ∷ filter test xs) (filter test xs))) (sym t) f
  | inr t ↦ subst (λ (b : Bool). IsFirst x (cond b (y ∷ filter test xs) (filter test xs))) (sym t)
      (first_filter test x xs (next xs f r.1.0) r.1.1)
]
  where
    next : (xs : List (ℕ × ℕ)) → is_before x y ≡ true → IsFirst y xs → IsFirst x xs
    next [] f g = tt
    next (z ∷ xs) f g = is_before_from x z (onward x y z (before_is x y f) (before_is y z g))

pub rising_filter : (test : ℕ × ℕ → Bool) (xs : List (ℕ × ℕ)) → IsRising xs → IsRising (filter test xs)
rising_filter test [] r = tt
rising_filter test (x ∷ xs) r = elim (cases_Bool (test x)) [
  | inl t ↦ subst (λ (b : Bool). IsRising (cond b (x ∷ filter test xs) (filter test xs))) (sym t)
      (r.0, (first_filter test x xs r.1.0 r.1.1, rising_filter test xs r.1.1))
  | inr t ↦ subst (λ (b : Bool). IsRising (cond b (x ∷ filter test xs) (filter test xs))) (sym t) (rising_filter test xs r.1.1)
]

pub kept_all : (ids : List ℕ) (old now : List (ℕ × ℕ)) → IsRising old → IsRising now → IsKeptTo ids old now 2048 → now ≡ kept ids old
kept_all ids old now r s k = is_one_list now (kept ids old) s (rising_filter (λ p. has_id ids p.0 && has_id ids p.1) old r)
    (λ p l. same_truth (has_pair p now) (has_pair p (kept ids old))
    (λ h.
    let n = low_of now p s h in
    let g = k.gone p l h in
    has_filter (λ q. has_id ids q.0 && has_id ids q.1) p old ∙ and_from (has_id ids p.0 && has_id ids p.1) (has_pair p old)
    (and_from (has_id ids p.0) (has_id ids p.1) (g.1.0 (omega (arith, n, l))) (g.1.1 n)) g.0)
    (λ h.
    let a = and_parts (has_id ids p.0 && has_id ids p.1) (has_pair p old)
    (sym (has_filter (λ q. has_id ids q.0 && has_id ids q.1) p old) ∙ h) in
    let b = and_parts (has_id ids p.0) (has_id ids p.1) a.0 in
    k.kept p l a.1 (λ _. b.0) (λ _. b.1)))

-- an id without a slot has no pair
pub no_pairs : (slots : List (Option ℕ)) (words : List ℕ) (a : ℕ) → slot_of slots a ≡ None → (p : ℕ × ℕ) → p.0 < p.1
    → has_pair p (pairs_in slots words) ≡ true → (p.0 ≡ a → ⊥) × (p.1 ≡ a → ⊥)
no_pairs slots words a n p l h = (
  λ e. false≢true (sym (left_no_hit slots words p.0 p.1 (ap (slot_of slots) e ∙ n)) ∙ sym (packed_has slots words p l) ∙ h),
  λ e. false≢true (sym (no_hit slots words p.0 p.1 (ap (slot_of slots) e ∙ n)) ∙ sym (packed_has slots words p l) ∙ h),
)

-- an id that is in the set, or has no slot
pub stays : (ids : List ℕ) (slots : List (Option ℕ)) (words : List ℕ) (a : ℕ) → (has_id ids a ≡ true) ⊎ (slot_of slots a ≡ None)
    → (p : ℕ × ℕ) → p.0 < p.1 → has_pair p (pairs_in slots words) ≡ true → (p.0 ≡ a → has_id ids a ≡ true)
    × (p.1 ≡ a → has_id ids a ≡ true)
stays ids slots words a (inl t) p l h = (λ _. t, λ _. t)
stays ids slots words a (inr n) p l h =
    let g = no_pairs slots words a n p l h in
    (λ e. absurd (g.0 e), λ e. absurd (g.1 e))

-- the end of the walk over all ids
pub kept_at_end : (ids : List ℕ) (old now : List (ℕ × ℕ)) (a : ℕ) → 2048 ≤ a → a ≤ 2048 → IsRising old → IsRising now
    → IsKeptTo ids old now a → now ≡ kept ids old
kept_at_end ids old now a l m r s k = kept_all ids old now r s (subst (λ (n : ℕ). IsKeptTo ids old now n) (omega (arith, l, m)) k)
