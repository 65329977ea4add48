-- Pairs as bits: the pairs of which something holds, and what a change of slots and bits leaves of them.
use Rattle.std.proofs.Common.{◌≡◌, ℕ, zero, suc, ◌+◌, ◌*◌, ◌/◌, ◌<◌, ◌≤◌, min, max, Bool, true, false, not, ◌&&◌, ◌||◌, ◌==◌, List}
use Rattle.std.proofs.Common.{[], ◌∷◌, ◌++◌, length, Option, Some, None, ◌⊎◌, inl, inr, refl, sym, ap, subst, ◌∙◌, arith, eq-eqb}
use Rattle.std.proofs.lemmas.Bool.{false≢true, ne_eqb, cases_lt, cases_eq, false_from_ne_true, cond-true, cond-false, cases_Bool, or_left}
use Rattle.std.proofs.lemmas.Option.{none-some}
use Rattle.jvm_values.proofs.list_views.Truths.{or_false, or_assoc, and_false as and_off, or_twice, or_over}
use Rattle.jvm_values.proofs.Options.{some_is}
use Rattle.abs_cells.specs.PairLists.{pair_of, is_same, is_before, IsFirst, IsRising, has_pair, with_pair, without_pair, has}
use Rattle.abs_cells.specs.IdSets.{has_bit}
use Rattle.abs_cells.specs.PackedBits.{row_from, pairs_from, pairs_in, slot_of, row_start, place_of, hit, hit_slots, ArePacked}
use Rattle.abs_cells.proofs.PairLaws.{Before, is_before_from, never_both, never_itself, same_is, is_same_from, not_same, or_rest}
use Rattle.abs_cells.proofs.PairLaws.{behind_first, standing}

-- ---- two rising lists with the same pairs are equal

head_is : (p q : ℕ × ℕ) (xs ys : List (ℕ × ℕ)) → IsRising (p ∷ xs) → IsRising (q ∷ ys) → has_pair p (q ∷ ys) ≡ true
    → has_pair q (p ∷ xs) ≡ true → p ≡ q
head_is p q xs ys r s h k = elim (cases_Bool (is_same p q)) [
  | inl e ↦ same_is p q e
  | inr e ↦ elim (cases_Bool (is_same q p)) [
    | inl f ↦ sym (same_is q p f)
    | inr f ↦ absurd (never_both p q (behind_first p q xs r.1.0 r.1.1 (sym (or_rest (is_same q p) (has_pair q xs) f) ∙ k))
        (behind_first q p ys s.1.0 s.1.1 (sym (or_rest (is_same p q) (has_pair p ys) e) ∙ h)))
  ]
]

not_in_rest : (p : ℕ × ℕ) (xs : List (ℕ × ℕ)) → IsRising (p ∷ xs) → has_pair p xs ≡ true → ⊥
not_in_rest p xs r h = never_itself p p refl (behind_first p p xs r.1.0 r.1.1 h)

pub is_one_list : (xs ys : List (ℕ × ℕ)) → IsRising xs → IsRising ys → ((p : ℕ × ℕ) → p.0 < p.1 → has_pair p xs ≡ has_pair p ys) → xs ≡ ys
is_one_list [] [] r s h = refl
is_one_list [] (y ∷ ys) r s h = absurd (false≢true (h y s.0.0 ∙ or_left (is_same y y) (has_pair y ys) (is_same_from y y refl)))
is_one_list (x ∷ xs) [] r s h = absurd (false≢true (sym (h x r.0.0) ∙ or_left (is_same x x) (has_pair x xs) (is_same_from x x refl)))
is_one_list (x ∷ xs) (y ∷ ys) r s h =
    let e : x ≡ y = head_is x y xs ys r s (sym (h x r.0.0) ∙ or_left (is_same x x) (has_pair x xs) (is_same_from x x refl))
    (h y s.0.0 ∙ or_left (is_same y y) (has_pair y ys) (is_same_from y y refl)) in
    let rest : (p : ℕ × ℕ) → p.0 < p.1 → has_pair p xs ≡ has_pair p ys = λ p l. elim (cases_Bool (is_same p x)) [
      | inl t ↦
          let u : p ≡ x = same_is p x t in
          false_from_ne_true (has_pair p xs) (λ k. not_in_rest x xs r (subst (λ (q : ℕ × ℕ). has_pair q xs ≡ true) u k))
          ∙ sym (false_from_ne_true (has_pair p ys) (λ k. not_in_rest y ys s (subst (λ (q : ℕ × ℕ). has_pair q ys ≡ true) (u ∙ e) k)))
      | inr t ↦
          let v : is_same p y ≡ false = subst (λ (q : ℕ × ℕ). is_same p q ≡ false) e t in
          sym (or_rest (is_same p x) (has_pair p xs) t) ∙ h p l ∙ or_rest (is_same p y) (has_pair p ys) v
    ] in
    let tails : xs ≡ ys = is_one_list xs ys r.1.1 s.1.1 rest in
    ap (λ (q : ℕ × ℕ). q ∷ xs) e ∙ ap (λ (zs : List (ℕ × ℕ)). y ∷ zs) tails

with_same : (p x : ℕ × ℕ) (xs : List (ℕ × ℕ)) → is_same p x ≡ true → with_pair p (x ∷ xs) ≡ x ∷ xs
with_same p x xs e = cond-true (is_same p x) _ _ e

with_before : (p x : ℕ × ℕ) (xs : List (ℕ × ℕ)) → is_same p x ≡ false → is_before p x ≡ true → with_pair p (x ∷ xs) ≡ p ∷ x ∷ xs
with_before p x xs e f = cond-false (is_same p x) _ _ e ∙ cond-true (is_before p x) _ _ f

with_after : (p x : ℕ × ℕ) (xs : List (ℕ × ℕ)) → is_same p x ≡ false → is_before p x ≡ false → with_pair p (x ∷ xs) ≡ x ∷ with_pair p xs
with_after p x xs e f = cond-false (is_same p x) _ _ e ∙ cond-false (is_before p x) _ _ f

without_same : (p x : ℕ × ℕ) (xs : List (ℕ × ℕ)) → is_same p x ≡ true → without_pair p (x ∷ xs) ≡ xs
without_same p x xs e = cond-true (is_same p x) _ _ e

without_other : (p x : ℕ × ℕ) (xs : List (ℕ × ℕ)) → is_same p x ≡ false → without_pair p (x ∷ xs) ≡ x ∷ without_pair p xs
without_other p x xs e = cond-false (is_same p x) _ _ e

pub has_with : (q p : ℕ × ℕ) (xs : List (ℕ × ℕ)) → has_pair q (with_pair p xs) ≡ (is_same q p || has_pair q xs)
has_with q p [] = refl
has_with q p (x ∷ xs) = elim (standing p x) [
  | inl c ↦
      ap (has_pair q) (with_same p x xs c.same)
      ∙ or_twice (is_same q x) (has_pair q xs) ∙ ap (λ (y : ℕ × ℕ). is_same q y || (is_same q x || has_pair q xs)) (sym c.is)
  | inr d ↦ elim d [
    | inl c ↦ ap (has_pair q) (with_before p x xs c.same c.before)
    | inr c ↦
        ap (has_pair q) (with_after p x xs c.same c.before)
        ∙ ap (λ (b : Bool). is_same q x || b) (has_with q p xs) ∙ or_over (is_same q x) (is_same q p) (has_pair q xs)
  ]
]

-- what a list has without its first pair, and without another one
without_here : (q p x : ℕ × ℕ) (xs : List (ℕ × ℕ)) → IsRising (x ∷ xs) → p ≡ x
    → has_pair q xs ≡ (not (is_same q p) && (is_same q x || has_pair q xs))
without_here q p x xs r e = elim (cases_Bool (is_same q p)) [
  | inl t ↦
      let u : q ≡ x = same_is q p t ∙ e in
      false_from_ne_true (has_pair q xs) (λ k. not_in_rest x xs r (subst (λ (y : ℕ × ℕ). has_pair y xs ≡ true) u k))
      ∙ sym (ap (λ (b : Bool). not b && (is_same q x || has_pair q xs)) t)
  | inr t ↦
      let v : is_same q x ≡ false = subst (λ (y : ℕ × ℕ). is_same q y ≡ false) e t in
      sym (ap (λ (b : Bool). not b && (is_same q x || has_pair q xs)) t ∙ or_rest (is_same q x) (has_pair q xs) v)
]

without_there : (q p x : ℕ × ℕ) (rest : Bool) → is_same p x ≡ false
    → (is_same q x || (not (is_same q p) && rest)) ≡ (not (is_same q p) && (is_same q x || rest))
without_there q p x rest s = elim (cases_Bool (is_same q p)) [
  | inl t ↦
      let v : is_same q x ≡ false = subst (λ (y : ℕ × ℕ). is_same y x ≡ false) (sym (same_is q p t)) s in
      ap (λ (b : Bool). is_same q x || (not b && rest)) t ∙ or_rest (is_same q x) false v
      ∙ sym (ap (λ (b : Bool). not b && (is_same q x || rest)) t)
  | inr t ↦ ap (λ (b : Bool). is_same q x || (not b && rest)) t ∙ sym (ap (λ (b : Bool). not b && (is_same q x || rest)) t)
]

pub has_without : (q p : ℕ × ℕ) (xs : List (ℕ × ℕ)) → IsRising xs → has_pair q (without_pair p xs) ≡ (not (is_same q p) && has_pair q xs)
has_without q p [] r = sym (and_off (not (is_same q p)))
has_without q p (x ∷ xs) r = elim (cases_Bool (is_same p x)) [
  | inl s ↦ ap (has_pair q) (without_same p x xs s) ∙ without_here q p x xs r (same_is p x s)
  | inr s ↦ ap (has_pair q) (without_other p x xs s) ∙ ap (λ (b : Bool). is_same q x || b) (has_without q p xs r.1.1)
      ∙ without_there q p x (has_pair q xs) s
]

-- ---- the pairs of which something holds

pub has_append : (p : ℕ × ℕ) (xs ys : List (ℕ × ℕ)) → has_pair p (xs ++ ys) ≡ (has_pair p xs || has_pair p ys)
has_append p [] ys = refl
has_append p (x ∷ xs) ys = ap (λ (b : Bool). is_same p x || b) (has_append p xs ys)
    ∙ sym (or_assoc (is_same p x) (has_pair p xs) (has_pair p ys))

pub row_with : (test : ℕ → Bool) (a b count : ℕ) → test b ≡ true → row_from test a b (suc count) ≡ (a, b) ∷ row_from test a (suc b) count
row_with test a b count e = cond-true (test b) _ _ e

pub row_without : (test : ℕ → Bool) (a b count : ℕ) → test b ≡ false → row_from test a b (suc count) ≡ row_from test a (suc b) count
row_without test a b count e = cond-false (test b) _ _ e

first_of : {p : ℕ × ℕ} {a b : ℕ} → p ≡ (a, b) → p.0 ≡ a
first_of e = ap (λ (x : ℕ × ℕ). x.0) e

second_of : {p : ℕ × ℕ} {a b : ℕ} → p ≡ (a, b) → p.1 ≡ b
second_of e = ap (λ (x : ℕ × ℕ). x.1) e

-- a pair of another lower number, or with a higher number below the first, is in no row
other_row : (test : ℕ → Bool) (a b count : ℕ) (p : ℕ × ℕ) → (p.0 ≡ a → b ≤ p.1 → ⊥) → has_pair p (row_from test a b count) ≡ false
other_row test a b zero p f = refl
other_row test a b (suc count) p f =
    let rest : has_pair p (row_from test a (suc b) count) ≡ false = other_row test a (suc b) count p (λ e l. f e (omega (arith, l))) in
    elim (cases_Bool (test b)) [
      | inl t ↦
          let apart : is_same p (a, b) ≡ false = not_same p (a, b) (λ e. f (first_of e) (omega (arith, second_of e))) in
          ap (has_pair p) (row_with test a b count t) ∙ or_rest (is_same p (a, b)) (has_pair p (row_from test a (suc b) count))
          apart ∙ rest
      | inr t ↦ ap (has_pair p) (row_without test a b count t) ∙ rest
    ]

-- a row has the pairs of its test
in_row : (test : ℕ → Bool) (a b count c : ℕ) → b ≤ c → c < b + count → has_pair (a, c) (row_from test a b count) ≡ test c
in_row test a b zero c l m = absurd (omega (arith, l, m))
in_row test a b (suc count) c l m = elim (cases_eq c b) [
  | inl e ↦ elim (cases_Bool (test b)) [
    | inl t ↦
        let right : ℕ → ℕ × ℕ = λ x. (a, x) in
        ap (has_pair (a, c)) (row_with test a b count t)
        ∙ or_left (is_same (a, c) (a, b)) (has_pair (a, c) (row_from test a (suc b) count))
        (is_same_from (a, c) (a, b) (ap right e)) ∙ sym (ap test e ∙ t)
    | inr t ↦ ap (has_pair (a, c)) (row_without test a b count t)
        ∙ other_row test a (suc b) count (a, c) (λ u k. omega (arith, e, k)) ∙ sym (ap test e ∙ t)
  ]
  | inr d ↦
      let k : suc b ≤ c = omega (arith, l, d) in
      let rest : has_pair (a, c) (row_from test a (suc b) count) ≡ test c = in_row test a (suc b) count c k (omega (arith, m)) in
      elim (cases_Bool (test b)) [
        | inl t ↦
            let apart : is_same (a, c) (a, b) ≡ false = not_same (a, c) (a, b) (λ e. d (second_of e)) in
            ap (has_pair (a, c)) (row_with test a b count t)
            ∙ or_rest (is_same (a, c) (a, b)) (has_pair (a, c) (row_from test a (suc b) count)) apart ∙ rest
        | inr t ↦ ap (has_pair (a, c)) (row_without test a b count t) ∙ rest
      ]
]

past_row : (test : ℕ → Bool) (a b count : ℕ) (p : ℕ × ℕ) → b + count ≤ p.1 → has_pair p (row_from test a b count) ≡ false
past_row test a b zero p m = refl
past_row test a b (suc count) p m =
    let rest : has_pair p (row_from test a (suc b) count) ≡ false = past_row test a (suc b) count p (omega (arith, m)) in
    elim (cases_Bool (test b)) [
      | inl t ↦
          let apart : is_same p (a, b) ≡ false = not_same p (a, b) (λ e. omega (arith, m, second_of e)) in
          ap (has_pair p) (row_with test a b count t) ∙ or_rest (is_same p (a, b)) (has_pair p (row_from test a (suc b) count))
          apart ∙ rest
      | inr t ↦ ap (has_pair p) (row_without test a b count t) ∙ rest
    ]

lower_out : (holds : ℕ → ℕ → Bool) (a count : ℕ) (p : ℕ × ℕ) → p.0 < a → has_pair p (pairs_from holds a count) ≡ false
lower_out holds a zero p l = refl
lower_out holds a (suc count) p l =
    has_append p (row_from (holds a) a (suc a) count) (pairs_from holds (suc a) count)
    ∙ ap (λ (b : Bool). b || has_pair p (pairs_from holds (suc a) count))
    (other_row (holds a) a (suc a) count p (λ e k. omega (arith, l, e)))
    ∙ lower_out holds (suc a) count p (omega (arith, l))

higher_out : (holds : ℕ → ℕ → Bool) (a count : ℕ) (p : ℕ × ℕ) → p.0 < p.1 → a + count ≤ p.1 → has_pair p (pairs_from holds a count) ≡ false
higher_out holds a zero p l m = refl
higher_out holds a (suc count) p l m =
    has_append p (row_from (holds a) a (suc a) count) (pairs_from holds (suc a) count)
    ∙ ap (λ (b : Bool). b || has_pair p (pairs_from holds (suc a) count)) (past_row (holds a) a (suc a) count p (omega (arith, m)))
    ∙ higher_out holds (suc a) count p l (omega (arith, m))

first_row : (holds : ℕ → ℕ → Bool) (a count : ℕ) (p : ℕ × ℕ) → p.0 ≡ a → p.0 < p.1 → p.1 < a + suc count
    → has_pair p (row_from (holds a) a (suc a) count) ≡ holds p.0 p.1
first_row holds a count (x, y) e m n = ap (λ (z : ℕ). has_pair (z, y) (row_from (holds a) a (suc a) count)) e
    ∙ in_row (holds a) a (suc a) count y (omega (arith, e, m)) (omega (arith, n)) ∙ ap (λ (z : ℕ). holds z y) (sym e)

inside : (holds : ℕ → ℕ → Bool) (a count : ℕ) (p : ℕ × ℕ) → a ≤ p.0 → p.0 < p.1 → p.1 < a + count
    → has_pair p (pairs_from holds a count) ≡ holds p.0 p.1
inside holds a zero p l m n = absurd (omega (arith, l, m, n))
inside holds a (suc count) p l m n = elim (cases_eq p.0 a) [
  | inl e ↦
      has_append p (row_from (holds a) a (suc a) count) (pairs_from holds (suc a) count)
      ∙ ap (λ (b : Bool). has_pair p (row_from (holds a) a (suc a) count) || b) (lower_out holds (suc a) count p (omega (arith, e)))
      ∙ or_false (has_pair p (row_from (holds a) a (suc a) count)) ∙ first_row holds a count p e m n
  | inr d ↦
      has_append p (row_from (holds a) a (suc a) count) (pairs_from holds (suc a) count)
      ∙ ap (λ (b : Bool). b || has_pair p (pairs_from holds (suc a) count)) (other_row (holds a) a (suc a) count p (λ e k. d e))
      ∙ inside holds (suc a) count p (omega (arith, l, d)) m (omega (arith, n))
]

-- the lists rise
starts : (p : ℕ × ℕ) (test : ℕ → Bool) (a b count : ℕ) (ys : List (ℕ × ℕ)) → ((c : ℕ) → b ≤ c → Before p (a, c)) → IsFirst p ys
    → IsFirst p (row_from test a b count ++ ys)
starts p test a b zero ys f h = h
starts p test a b (suc count) ys f h = elim (cases_Bool (test b)) [
  | inl t ↦ subst (λ (xs : List (ℕ × ℕ)). IsFirst p (xs ++ ys)) (sym (row_with test a b count t))
      (is_before_from p (a, b) (f b (omega arith)))
  | inr t ↦ subst (λ (xs : List (ℕ × ℕ)). IsFirst p (xs ++ ys)) (sym (row_without test a b count t))
      (starts p test a (suc b) count ys (λ c l. f c (omega (arith, l))) h)
]

row_rises : (test : ℕ → Bool) (a b count : ℕ) (ys : List (ℕ × ℕ)) → a < b → b + count ≤ 2048 → ((c : ℕ) → IsFirst (a, c) ys)
    → IsRising ys → IsRising (row_from test a b count ++ ys)
row_rises test a b zero ys l m f r = r
row_rises test a b (suc count) ys l m f r =
    let rest : IsRising (row_from test a (suc b) count ++ ys) = row_rises test a (suc b) count ys (omega (arith, l))
    (omega (arith, m)) f r in
    elim (cases_Bool (test b)) [
      | inl t ↦ subst (λ (xs : List (ℕ × ℕ)). IsRising (xs ++ ys)) (sym (row_with test a b count t))
          ((l, omega (arith, m)), (starts (a, b) test a (suc b) count ys (λ c k. inr (refl, omega (arith, k))) (f b), rest))
      | inr t ↦ subst (λ (xs : List (ℕ × ℕ)). IsRising (xs ++ ys)) (sym (row_without test a b count t)) rest
    ]

first_from : (holds : ℕ → ℕ → Bool) (a count : ℕ) (p : ℕ × ℕ) → p.0 < a → IsFirst p (pairs_from holds a count)
first_from holds a zero p l = tt
first_from holds a (suc count) p l = starts p (holds a) a (suc a) count (pairs_from holds (suc a) count) (λ c k. inl l)
    (first_from holds (suc a) count p (omega (arith, l)))

rises_from : (holds : ℕ → ℕ → Bool) (a count : ℕ) → a + count ≤ 2048 → IsRising (pairs_from holds a count)
rises_from holds a zero l = tt
rises_from holds a (suc count) l = row_rises (holds a) a (suc a) count (pairs_from holds (suc a) count) (omega arith)
    (omega (arith, l)) (λ c. first_from holds (suc a) count (a, c) (omega arith)) (rises_from holds (suc a) count (omega (arith, l)))

-- ---- bits as pairs

pub packed_rises : (slots : List (Option ℕ)) (count : ℕ) (words : List ℕ) → ArePacked slots count words → IsRising (pairs_in slots words)
packed_rises slots count words h = rises_from (hit slots words) 0 (length slots) (omega (arith, h.few))

pub past_slots : (slots : List (Option ℕ)) (a : ℕ) → length slots ≤ a → slot_of slots a ≡ None
past_slots [] a l = refl
past_slots (s ∷ slots) zero l = absurd (omega (arith, l))
past_slots (s ∷ slots) (suc a) l = past_slots slots a (omega (arith, l))

pub no_hit : (slots : List (Option ℕ)) (words : List ℕ) (a b : ℕ) → slot_of slots b ≡ None → hit slots words a b ≡ false
no_hit slots words a b e = ap (hit_slots words (slot_of slots a)) e ∙ right_none (slot_of slots a)
  where
    right_none : (s : Option ℕ) → hit_slots words s None ≡ false
    right_none None = refl
    right_none (Some s) = refl

pub packed_has : (slots : List (Option ℕ)) (words : List ℕ) (p : ℕ × ℕ) → p.0 < p.1
    → has_pair p (pairs_in slots words) ≡ hit slots words p.0 p.1
packed_has slots words p l = elim (cases_lt p.1 (length slots)) [
  | inl m ↦ inside (hit slots words) 0 (length slots) p (omega arith) l (omega (arith, m))
  | inr m ↦ higher_out (hit slots words) 0 (length slots) p l (omega (arith, m))
      ∙ sym (no_hit slots words p.0 p.1 (past_slots slots p.1 m))
]

pub place_turned : (s t : ℕ) → place_of s t ≡ place_of t s
place_turned s t =
    let high : max s t ≡ max t s = omega arith in
    let low : min s t ≡ min t s = omega arith in
    ap (λ (x : ℕ). 64 * row_start x + min s t) high ∙ ap (λ (y : ℕ). 64 * row_start (max t s) + y) low

pub hit_turned : (slots : List (Option ℕ)) (words : List ℕ) (a b : ℕ) → hit slots words a b ≡ hit slots words b a
hit_turned slots words a b = go (slot_of slots a) (slot_of slots b)
  where
    go : (s t : Option ℕ) → hit_slots words s t ≡ hit_slots words t s
    go None None = refl
    go None (Some t) = refl
    go (Some s) None = refl
    go (Some s) (Some t) = ap (has_bit words) (place_turned s t)

-- the pair of two ids is told by their bit
pub packed_has_two : (slots : List (Option ℕ)) (words : List ℕ) (a b : ℕ) → (a ≡ b → ⊥)
    → has a b (pairs_in slots words) ≡ hit slots words a b
packed_has_two slots words a b d = elim (cases_lt a b) [
  | inl l ↦
      let low : min a b ≡ a = omega (arith, l) in
      let high : max a b ≡ b = omega (arith, l) in
      packed_has slots words (pair_of a b) (omega (arith, l)) ∙ ap (λ (x : ℕ). hit slots words x (max a b)) low
      ∙ ap (hit slots words a) high
  | inr l ↦
      let m : b < a = omega (arith, l, d) in
      let low : min a b ≡ b = omega (arith, l) in
      let high : max a b ≡ a = omega (arith, l) in
      packed_has slots words (pair_of a b) (omega (arith, m)) ∙ ap (λ (x : ℕ). hit slots words x (max a b)) low
      ∙ ap (hit slots words b) high ∙ hit_turned slots words b a
]

-- where the bits of all ids are the same, the pairs are
pub same_pairs : (slots now : List (Option ℕ)) (words words_now : List ℕ) → length slots ≤ 2048 → length now ≤ 2048
    → ((a b : ℕ) → hit now words_now a b ≡ hit slots words a b) → pairs_in now words_now ≡ pairs_in slots words
same_pairs slots now words words_now l m h =
    is_one_list (pairs_in now words_now) (pairs_in slots words) (rises_from (hit now words_now) 0 (length now) (omega (arith, m)))
    (rises_from (hit slots words) 0 (length slots) (omega (arith, l)))
    (λ p k. packed_has now words_now p k ∙ h p.0 p.1 ∙ sym (packed_has slots words p k))

-- ---- rows do not overlap

pub later_row : (s t : ℕ) → s < t → row_start s + suc (s / 64) ≤ row_start t
later_row s zero l = absurd (omega (arith, l))
later_row s (suc t) l = elim (cases_eq s t) [
  | inl e ↦ subst (λ (x : ℕ). row_start s + suc (s / 64) ≤ row_start x + suc (x / 64)) e (omega arith)
  | inr d ↦ omega (arith, later_row s t (omega (arith, l, d)))
]

pub rows_apart : (s t a b : ℕ) → a < 64 * suc (s / 64) → b < 64 * suc (t / 64) → 64 * row_start s + a ≡ 64 * row_start t + b
    → (s ≡ t) × (a ≡ b)
rows_apart s t a b l m e = elim (cases_lt s t) [
  | inl k ↦ absurd (omega (arith, later_row s t k, l, e))
  | inr k ↦ elim (cases_lt t s) [
    | inl j ↦ absurd (omega (arith, later_row t s j, m, e))
    | inr j ↦
        let same : s ≡ t = omega (arith, k, j) in
        (same, omega (arith, e, ap row_start same))
  ]
]

-- two pairs of slots that have one bit are one
places_apart : (s t u v : ℕ) → place_of s t ≡ place_of u v → (max s t ≡ max u v) × (min s t ≡ min u v)
places_apart s t u v e = rows_apart (max s t) (max u v) (min s t) (min u v) (omega arith) (omega arith) e

-- ---- what a call leaves: one bit is set, or cleared

-- the bit of two ids is no other ids' bit
other_bit : (slots : List (Option ℕ)) (count : ℕ) (words : List ℕ) → ArePacked slots count words → (a b x y s t u v : ℕ)
    → slot_of slots a ≡ Some s → slot_of slots b ≡ Some t → slot_of slots x ≡ Some u → slot_of slots y ≡ Some v → a < b → x < y
    → place_of u v ≡ place_of s t → (x ≡ a) × (y ≡ b)
other_bit slots count words h a b x y s t u v ea eb ex ey l m e =
    let k = places_apart u v s t e in
    elim (cases_eq u s) [
      | inl us ↦
          let vt : v ≡ t = omega (arith, us, k.0, k.1) in
          (h.apart x a s (ex ∙ ap Some us) ea, h.apart y b t (ey ∙ ap Some vt) eb)
      | inr d ↦
          let ut : u ≡ t = omega (arith, d, k.0, k.1) in
          let vs : v ≡ s = omega (arith, d, k.0, k.1, ut) in
          let xb : x ≡ b = h.apart x b t (ex ∙ ap Some ut) eb in
          let ya : y ≡ a = h.apart y a s (ey ∙ ap Some vs) ea in
          absurd (omega (arith, xb, ya, l, m))
    ]

module _ (slots : List (Option ℕ)) (count : ℕ) (words after : List ℕ) (h : ArePacked slots count words) (a b s t : ℕ)
    (ea : slot_of slots a ≡ Some s) (eb : slot_of slots b ≡ Some t) where
  is_it : (x y u v : ℕ) → slot_of slots x ≡ Some u → slot_of slots y ≡ Some v → a < b → x < y
      → (place_of u v == place_of s t) ≡ is_same (x, y) (a, b)
  is_it x y u v ex ey l m = elim (cases_eq (place_of u v) (place_of s t)) [
    | inl e ↦
        let k = other_bit slots count words h a b x y s t u v ea eb ex ey l m e in
        let left : ℕ → ℕ × ℕ = λ z. (z, y) in
        let right : ℕ → ℕ × ℕ = λ z. (a, z) in
        eq-eqb (place_of u v) (place_of s t) e ∙ sym (is_same_from (x, y) (a, b) (ap left k.0 ∙ ap right k.1))
    | inr d ↦
        ne_eqb (place_of u v) (place_of s t) d ∙ sym (not_same (x, y) (a, b) (λ e.
        let us : u ≡ s = some_is (sym ex ∙ ap (slot_of slots) (ap (λ (z : ℕ × ℕ). z.0) e) ∙ ea) in
        let vt : v ≡ t = some_is (sym ey ∙ ap (slot_of slots) (ap (λ (z : ℕ × ℕ). z.1) e) ∙ eb) in
        d (ap (λ (z : ℕ). place_of z v) us ∙ ap (place_of s) vt)))
  ]

  pub set_hits : a < b → ((n : ℕ) → has_bit after n ≡ ((n == place_of s t) || has_bit words n)) → (x y : ℕ) → x < y
      → hit slots after x y ≡ (is_same (x, y) (a, b) || hit slots words x y)
  set_hits l f x y m = go (slot_of slots x) (slot_of slots y) refl refl
    where
      none_same : (u v : Option ℕ) → slot_of slots x ≡ u → slot_of slots y ≡ v → ((u ≡ None) ⊎ (v ≡ None)) → is_same (x, y) (a, b) ≡ false
      none_same u v ex ey (inl n) = not_same (x, y) (a, b)
          (λ e. none-some s (sym n ∙ sym ex ∙ ap (slot_of slots) (ap (λ (z : ℕ × ℕ). z.0) e) ∙ ea))
      none_same u v ex ey (inr n) = not_same (x, y) (a, b)
          (λ e. none-some t (sym n ∙ sym ey ∙ ap (slot_of slots) (ap (λ (z : ℕ × ℕ). z.1) e) ∙ eb))

      go : (u v : Option ℕ) → slot_of slots x ≡ u → slot_of slots y ≡ v
          → hit_slots after u v ≡ (is_same (x, y) (a, b) || hit_slots words u v)
      go None v ex ey = sym (or_rest (is_same (x, y) (a, b)) false (none_same None v ex ey (inl refl)))
      go (Some u) None ex ey = sym (or_rest (is_same (x, y) (a, b)) false (none_same (Some u) None ex ey (inr refl)))
      go (Some u) (Some v) ex ey = f (place_of u v) ∙ ap (λ (c : Bool). c || has_bit words (place_of u v)) (is_it x y u v ex ey l m)

  pub clear_hits : a < b → ((n : ℕ) → has_bit after n ≡ (not (n == place_of s t) && has_bit words n)) → (x y : ℕ) → x < y
      → hit slots after x y ≡ (not (is_same (x, y) (a, b)) && hit slots words x y)
  clear_hits l f x y m = go (slot_of slots x) (slot_of slots y) refl refl
    where
      and_off : (c : Bool) → (c && false) ≡ false
      and_off true = refl
      and_off false = refl

      go : (u v : Option ℕ) → slot_of slots x ≡ u → slot_of slots y ≡ v
          → hit_slots after u v ≡ (not (is_same (x, y) (a, b)) && hit_slots words u v)
      go None v ex ey = sym (and_off (not (is_same (x, y) (a, b))))
      go (Some u) None ex ey = sym (and_off (not (is_same (x, y) (a, b))))
      go (Some u) (Some v) ex ey = f (place_of u v) ∙ ap (λ (c : Bool). not c && has_bit words (place_of u v)) (is_it x y u v ex ey l m)
