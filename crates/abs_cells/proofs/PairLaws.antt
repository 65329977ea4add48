-- Rising lists of pairs: the place of a pair, and what putting and taking away leave.
use Rattle.std.proofs.Common.{◌≡◌, ℕ, zero, suc, ◌<◌, ◌≤◌, min, max, Bool, true, false, cond, ◌||◌, eqb, ltb, List, [], ◌∷◌, length}
use Rattle.std.proofs.Common.{get_or, Some, ◌⊎◌, inl, inr, refl, sym, ap, subst, ◌∙◌, arith, eq-eqb}
use Rattle.std.specs.Prelude.{slice_get}
use Rattle.std.specs.List.{insert, remove}
use Rattle.std.proofs.lemmas.Bool.{false≢true, eqb-true, ltb-true, lt-ltb, ne_eqb, and_parts, and_from, cases_lt, cond-true}
use Rattle.std.proofs.lemmas.Bool.{cond-false, cases_Bool, or_left}
use Rattle.std.proofs.lemmas.Option.{none-some}
use Rattle.jvm_values.proofs.Options.{some_is}
use Rattle.abs_cells.specs.PairLists.{pair_of, is_same, is_before, IsFirst, IsRising, has_pair, with_pair, without_pair, has, added}
use Rattle.abs_cells.specs.PairLists.{removed, place_in}

pub has_swapped : (a b : ℕ) (pairs : List (ℕ × ℕ)) → has b a pairs ≡ has a b pairs
has_swapped a b pairs =
    let low : min b a ≡ min a b = omega arith in
    let high : max b a ≡ max a b = omega arith in
    ap (λ (x : ℕ). has_pair (x, max b a) pairs) low ∙ ap (λ (y : ℕ). has_pair (min a b, y) pairs) high

abbrev pub Before : ℕ × ℕ → ℕ × ℕ → Type 0
Before p q = (p.0 < q.0) ⊎ ((p.0 ≡ q.0) × (p.1 < q.1))

pub before_is : (p q : ℕ × ℕ) → is_before p q ≡ true → Before p q
before_is p q e = go (eqb p.0 q.0) refl e
  where
    go : (t : Bool) → eqb p.0 q.0 ≡ t → cond t (ltb p.1 q.1) (ltb p.0 q.0) ≡ true → Before p q
    go true f h = inr (eqb-true p.0 q.0 f, ltb-true p.1 q.1 h)
    go false f h = inl (ltb-true p.0 q.0 h)

pub is_before_from : (p q : ℕ × ℕ) → Before p q → is_before p q ≡ true
is_before_from p q (inl l) = cond-false (eqb p.0 q.0) _ _ (ne_eqb p.0 q.0 (omega (arith, l))) ∙ lt-ltb p.0 q.0 l
is_before_from p q (inr h) = cond-true (eqb p.0 q.0) _ _ (eq-eqb p.0 q.0 h.0) ∙ lt-ltb p.1 q.1 h.1

pub never_both : (p q : ℕ × ℕ) → Before p q → Before q p → ⊥
never_both p q (inl l) (inl m) = omega (arith, l, m)
never_both p q (inl l) (inr m) = omega (arith, l, m.0)
never_both p q (inr l) (inl m) = omega (arith, l.0, m)
never_both p q (inr l) (inr m) = omega (arith, l.1, m.1)

pub never_itself : (p q : ℕ × ℕ) → p ≡ q → Before p q → ⊥
never_itself p q e (inl l) = let f : p.0 ≡ q.0 = ap (λ (x : ℕ × ℕ). x.0) e in omega (arith, l)
never_itself p q e (inr l) = let f : p.1 ≡ q.1 = ap (λ (x : ℕ × ℕ). x.1) e in omega (arith, l.1)

pub onward : (p q r : ℕ × ℕ) → Before p q → Before q r → Before p r
onward p q r (inl l) (inl m) = inl (omega (arith, l, m))
onward p q r (inl l) (inr m) = inl (omega (arith, l, m.0))
onward p q r (inr l) (inl m) = inl (omega (arith, l.0, m))
onward p q r (inr l) (inr m) = inr (l.0 ∙ m.0, omega (arith, l.1, m.1))

not_before : (p q : ℕ × ℕ) → (Before p q → ⊥) → is_before p q ≡ false
not_before p q h = elim (cases_Bool (is_before p q)) [ inl e ↦ absurd (h (before_is p q e)) | inr e ↦ e ]

pub same_is : (p q : ℕ × ℕ) → is_same p q ≡ true → p ≡ q
same_is (a, b) (c, d) e =
    let h = and_parts (eqb a c) (eqb b d) e in
    let f : ℕ → ℕ × ℕ = λ x. (x, b) in
    let g : ℕ → ℕ × ℕ = λ y. (c, y) in
    ap f (eqb-true a c h.0) ∙ ap g (eqb-true b d h.1)

pub is_same_from : (p q : ℕ × ℕ) → p ≡ q → is_same p q ≡ true
is_same_from p q e = and_from (eqb p.0 q.0) (eqb p.1 q.1) (eq-eqb p.0 q.0 (ap (λ (x : ℕ × ℕ). x.0) e))
    (eq-eqb p.1 q.1 (ap (λ (x : ℕ × ℕ). x.1) e))

pub not_same : (p q : ℕ × ℕ) → (p ≡ q → ⊥) → is_same p q ≡ false
not_same p q h = elim (cases_Bool (is_same p q)) [ inl e ↦ absurd (h (same_is p q e)) | inr e ↦ e ]

-- how two pairs stand: as one, the first before, or the first behind
pub record IsOne (p q : ℕ × ℕ) : Type 0 where
  pub is : p ≡ q
  pub same : is_same p q ≡ true
  pub after : is_before q p ≡ false

pub record IsLess (p q : ℕ × ℕ) : Type 0 where
  pub order : Before p q
  pub same : is_same p q ≡ false
  pub before : is_before p q ≡ true
  pub after : is_before q p ≡ false

pub record IsMore (p q : ℕ × ℕ) : Type 0 where
  pub order : Before q p
  pub same : is_same p q ≡ false
  pub before : is_before p q ≡ false
  pub after : is_before q p ≡ true

one : (p q : ℕ × ℕ) → p ≡ q → IsOne p q
one p q e = record { is = e; same = is_same_from p q e; after = not_before q p (never_itself q p (sym e)) }

less : (p q : ℕ × ℕ) → Before p q → IsLess p q
less p q h = record {
  order = h;
  same = not_same p q (λ e. never_itself p q e h);
  before = is_before_from p q h;
  after = not_before
      q p (never_both p q h);
}

behind : (p q : ℕ × ℕ) → Before q p → IsMore p q
behind p q h = record {
  order = h;
  same = not_same p q (λ e. never_itself q p (sym e) h);
  before = not_before p q
      (never_both q p h);
  after = is_before_from q p h;
}

pub standing : (p q : ℕ × ℕ) → IsOne p q ⊎ (IsLess p q ⊎ IsMore p q)
standing (a, b) (c, d) = elim (cases_lt a c) [
  | inl l ↦ inr (inl (less (a, b) (c, d) (inl l)))
  | inr l ↦ elim (cases_lt c a) [
    | inl m ↦ inr (inr (behind (a, b) (c, d) (inl m)))
    | inr m ↦
        let e : a ≡ c = omega (arith, l, m) in
        elim (cases_lt b d) [
          | inl u ↦ inr (inl (less (a, b) (c, d) (inr (e, u))))
          | inr u ↦ elim (cases_lt d b) [
            | inl v ↦ inr (inr (behind (a, b) (c, d) (inr (sym e, v))))
            | inr v ↦
                let g : b ≡ d = omega (arith, u, v) in
                let left : ℕ → ℕ × ℕ = λ x. (x, b) in
                let right : ℕ → ℕ × ℕ = λ y. (c, y) in
                inl (one (a, b) (c, d) (ap left e ∙ ap right g))
          ]
        ]
  ]
]

-- ---- the place of a pair

place_here : (p q : ℕ × ℕ) (rest : List (ℕ × ℕ)) → is_before q p ≡ false → place_in p (q ∷ rest) ≡ 0
place_here p q rest e = cond-false (is_before q p) _ _ e

place_later : (p q : ℕ × ℕ) (rest : List (ℕ × ℕ)) → is_before q p ≡ true → place_in p (q ∷ rest) ≡ suc (place_in p rest)
place_later p q rest e = cond-true (is_before q p) _ _ e

abbrev Stands : ℕ × ℕ → List (ℕ × ℕ) → Type 0
Stands p xs = slice_get xs (place_in p xs) ≡ Some p

stands_first : (p q : ℕ × ℕ) (rest : List (ℕ × ℕ)) → is_before q p ≡ false → Stands p (q ∷ rest) → q ≡ p
stands_first p q rest e h = some_is (ap (slice_get (q ∷ rest)) (sym (place_here p q rest e)) ∙ h)

stands_here : (p q : ℕ × ℕ) (rest : List (ℕ × ℕ)) → is_before q p ≡ false → q ≡ p → Stands p (q ∷ rest)
stands_here p q rest e f = ap (slice_get (q ∷ rest)) (place_here p q rest e) ∙ ap Some f

stands_rest : (p q : ℕ × ℕ) (rest : List (ℕ × ℕ)) → is_before q p ≡ true → Stands p (q ∷ rest) → Stands p rest
stands_rest p q rest e h = ap (slice_get (q ∷ rest)) (sym (place_later p q rest e)) ∙ h

stands_later : (p q : ℕ × ℕ) (rest : List (ℕ × ℕ)) → is_before q p ≡ true → Stands p rest → Stands p (q ∷ rest)
stands_later p q rest e h = ap (slice_get (q ∷ rest)) (place_later p q rest e) ∙ h

-- ---- putting a pair

pub put_again : (p : ℕ × ℕ) (xs : List (ℕ × ℕ)) → Stands p xs → with_pair p xs ≡ xs
put_again p [] h = absurd (none-some p h)
put_again p (q ∷ rest) h = elim (standing p q) [
  | inl c ↦ cond-true (is_same p q) _ _ c.same
  | inr d ↦ elim d [
    | inl c ↦ absurd (never_itself p q (sym (stands_first p q rest c.after h)) c.order)
    | inr c ↦ cond-false (is_same p q) _ _ c.same ∙ cond-false (is_before p q) _ _ c.before
        ∙ ap (λ (ys : List (ℕ × ℕ)). q ∷ ys) (put_again p rest (stands_rest p q rest c.after h))
  ]
]

pub put_new : (p : ℕ × ℕ) (xs : List (ℕ × ℕ)) → (Stands p xs → ⊥) → with_pair p xs ≡ insert xs (place_in p xs) p
put_new p [] h = refl
put_new p (q ∷ rest) h = elim (standing p q) [
  | inl c ↦ absurd (h (stands_here p q rest c.after (sym c.is)))
  | inr d ↦ elim d [
    | inl c ↦ cond-false (is_same p q) _ _ c.same ∙ cond-true (is_before p q) _ _ c.before
        ∙ ap (λ (i : ℕ). insert (q ∷ rest) i p) (sym (place_here p q rest c.after))
    | inr c ↦
        cond-false (is_same p q) _ _ c.same ∙ cond-false (is_before p q) _ _ c.before
        ∙ ap (λ (ys : List (ℕ × ℕ)). q ∷ ys) (put_new p rest (λ s. h (stands_later p q rest c.after s)))
        ∙ ap (λ (i : ℕ). insert (q ∷ rest) i p) (sym (place_later p q rest c.after))
  ]
]

first_with : (q p : ℕ × ℕ) (rest : List (ℕ × ℕ)) → IsFirst q rest → is_before q p ≡ true → IsFirst q (with_pair p rest)
first_with q p [] h e = e
first_with q p (r ∷ rest) h e = elim (standing p r) [
  | inl c ↦ subst (λ (ys : List (ℕ × ℕ)). IsFirst q ys) (sym (cond-true (is_same p r) _ _ c.same)) h
  | inr d ↦ elim d [
    | inl c ↦ subst (λ (ys : List (ℕ × ℕ)). IsFirst q ys)
        (sym (cond-false (is_same p r) _ _ c.same ∙ cond-true (is_before p r) _ _ c.before)) e
    | inr c ↦ subst (λ (ys : List (ℕ × ℕ)). IsFirst q ys)
        (sym (cond-false (is_same p r) _ _ c.same ∙ cond-false (is_before p r) _ _ c.before)) h
  ]
]

pub rising_with : (p : ℕ × ℕ) (xs : List (ℕ × ℕ)) → (p.0 < p.1) × (p.1 < 2048) → IsRising xs → IsRising (with_pair p xs)
rising_with p [] l h = (l, (tt, tt))
rising_with p (q ∷ rest) l h = elim (standing p q) [
  | inl c ↦ subst IsRising (sym (cond-true (is_same p q) _ _ c.same)) h
  | inr d ↦ elim d [
    | inl c ↦ subst IsRising (sym (cond-false (is_same p q) _ _ c.same ∙ cond-true (is_before p q) _ _ c.before)) (l, (c.before, h))
    | inr c ↦ subst IsRising (sym (cond-false (is_same p q) _ _ c.same ∙ cond-false (is_before p q) _ _ c.before))
        (h.0, (first_with q p rest h.1.0 c.after, rising_with p rest l h.1.1))
  ]
]

-- ---- having a pair

pub or_rest : (s t : Bool) → s ≡ false → (s || t) ≡ t
or_rest true t e = absurd (false≢true (sym e))
or_rest false t e = refl

-- a pair that stands somewhere behind is behind the first
pub behind_first : (q p : ℕ × ℕ) (rest : List (ℕ × ℕ)) → IsFirst q rest → IsRising rest → has_pair p rest ≡ true → Before q p
behind_first q p [] f r h = absurd (false≢true h)
behind_first q p (x ∷ rest) f r h = elim (cases_Bool (is_same p x)) [
  | inl s ↦ subst (λ (y : ℕ × ℕ). Before q y) (sym (same_is p x s)) (before_is q x f)
  | inr s ↦ onward q x p (before_is q x f) (behind_first x p rest r.1.0 r.1.1 (sym (or_rest (is_same p x) (has_pair p rest) s) ∙ h))
]

pub found : (p : ℕ × ℕ) (xs : List (ℕ × ℕ)) → IsRising xs → has_pair p xs ≡ true → Stands p xs
found p [] r h = absurd (false≢true h)
found p (q ∷ rest) r h = elim (standing p q) [
  | inl c ↦ stands_here p q rest c.after (sym c.is)
  | inr d ↦ elim d [
    | inl c ↦ absurd (never_both p q c.order
        (behind_first q p rest r.1.0 r.1.1 (sym (or_rest (is_same p q) (has_pair p rest) c.same) ∙ h)))
    | inr c ↦ stands_later p q rest c.after (found p rest r.1.1 (sym (or_rest (is_same p q) (has_pair p rest) c.same) ∙ h))
  ]
]

pub has_from : (p : ℕ × ℕ) (xs : List (ℕ × ℕ)) → Stands p xs → has_pair p xs ≡ true
has_from p [] h = absurd (none-some p h)
has_from p (q ∷ rest) h = elim (standing p q) [
  | inl c ↦ or_left (is_same p q) (has_pair p rest) c.same
  | inr d ↦ elim d [
    | inl c ↦ absurd (never_itself p q (sym (stands_first p q rest c.after h)) c.order)
    | inr c ↦ or_rest (is_same p q) (has_pair p rest) c.same ∙ has_from p rest (stands_rest p q rest c.after h)
  ]
]

pub has_is : (p : ℕ × ℕ) (xs : List (ℕ × ℕ)) (result : Bool) → IsRising xs → (result ≡ true → Stands p xs)
    → (Stands p xs → result ≡ true) → result ≡ has_pair p xs
has_is p xs true r h k = sym (has_from p xs (h refl))
has_is p xs false r h k = elim (cases_Bool (has_pair p xs)) [ inl e ↦ absurd (false≢true (k (found p xs r e))) | inr e ↦ sym e ]

-- ---- taking a pair away

pub take_away : (p : ℕ × ℕ) (xs : List (ℕ × ℕ)) → Stands p xs → without_pair p xs ≡ remove xs (place_in p xs)
take_away p [] h = absurd (none-some p h)
take_away p (q ∷ rest) h = elim (standing p q) [
  | inl c ↦ cond-true (is_same p q) _ _ c.same ∙ ap (λ (i : ℕ). remove (q ∷ rest) i) (sym (place_here p q rest c.after))
  | inr d ↦ elim d [
    | inl c ↦ absurd (never_itself p q (sym (stands_first p q rest c.after h)) c.order)
    | inr c ↦
        cond-false (is_same p q) _ _ c.same ∙ ap (λ (ys : List (ℕ × ℕ)). q ∷ ys) (take_away p rest (stands_rest p q rest c.after h))
        ∙ ap (λ (i : ℕ). remove (q ∷ rest) i) (sym (place_later p q rest c.after))
  ]
]

pub without_none : (p : ℕ × ℕ) (xs : List (ℕ × ℕ)) → has_pair p xs ≡ false → without_pair p xs ≡ xs
without_none p [] h = refl
without_none p (q ∷ rest) h = elim (cases_Bool (is_same p q)) [
  | inl s ↦ absurd (false≢true (sym h ∙ or_left (is_same p q) (has_pair p rest) s))
  | inr s ↦ cond-false (is_same p q) _ _ s
      ∙ ap (λ (ys : List (ℕ × ℕ)). q ∷ ys) (without_none p rest (sym (or_rest (is_same p q) (has_pair p rest) s) ∙ h))
]

pub take_none : (p : ℕ × ℕ) (xs : List (ℕ × ℕ)) → IsRising xs → (Stands p xs → ⊥) → without_pair p xs ≡ xs
take_none p xs r h = without_none p xs (elim (cases_Bool (has_pair p xs)) [ inl e ↦ absurd (h (found p xs r e)) | inr e ↦ e ])

first_of_rest : (q : ℕ × ℕ) (x : ℕ × ℕ) (rest : List (ℕ × ℕ)) → is_before q x ≡ true → IsFirst x rest → IsFirst q rest
first_of_rest q x [] e h = tt
first_of_rest q x (y ∷ rest) e h = is_before_from q y (onward q x y (before_is q x e) (before_is x y h))

first_without : (q p : ℕ × ℕ) (rest : List (ℕ × ℕ)) → IsFirst q rest → IsRising rest → IsFirst q (without_pair p rest)
first_without q p [] h r = tt
first_without q p (x ∷ rest) h r = elim (cases_Bool (is_same p x)) [
  | inl s ↦ subst (λ (ys : List (ℕ × ℕ)). IsFirst q ys) (sym (cond-true (is_same p x) _ _ s)) (first_of_rest q x rest h r.1.0)
  | inr s ↦ subst (λ (ys : List (ℕ × ℕ)). IsFirst q ys) (sym (cond-false (is_same p x) _ _ s)) h
]

pub rising_without : (p : ℕ × ℕ) (xs : List (ℕ × ℕ)) → IsRising xs → IsRising (without_pair p xs)
rising_without p [] h = tt
rising_without p (q ∷ rest) h = elim (cases_Bool (is_same p q)) [
  | inl s ↦ subst IsRising (sym (cond-true (is_same p q) _ _ s)) h.1.1
  | inr s ↦ subst IsRising (sym (cond-false (is_same p q) _ _ s)) (h.0, (first_without q p rest h.1.0 h.1.1, rising_without p rest h.1.1))
]

-- ---- looking for the place

-- a pair behind which the place lies stands behind all that are before the place
later_too : (q p : ℕ × ℕ) (rest : List (ℕ × ℕ)) → IsFirst q rest → 0 < place_in p rest → is_before q p ≡ true
later_too q p [] f l = absurd (omega (arith, l))
later_too q p (x ∷ rest) f l = elim (cases_Bool (is_before x p)) [
  | inl e ↦ is_before_from q p (onward q x p (before_is q x f) (before_is x p e))
  | inr e ↦ absurd (omega (arith, l, place_here p x rest e))
]

-- the place lies behind a pair that stands before the sought one, and not behind another
pub place_behind : (p : ℕ × ℕ) (xs : List (ℕ × ℕ)) (i : ℕ) (d : ℕ × ℕ) → IsRising xs → i < length xs
    → is_before (get_or xs i d) p ≡ true → i < place_in p xs
place_behind p [] i d r l b = absurd (omega (arith, l))
place_behind p (q ∷ rest) zero d r l b = omega (arith, place_later p q rest b)
place_behind p (q ∷ rest) (suc i) d r l b =
    let h = place_behind p rest i d r.1.1 (omega (arith, l)) b in
    omega (arith, h, place_later p q rest (later_too q p rest r.1.0 (omega (arith, h))))

pub place_before : (p : ℕ × ℕ) (xs : List (ℕ × ℕ)) (i : ℕ) (d : ℕ × ℕ) → i < length xs → is_before (get_or xs i d) p ≡ false
    → place_in p xs ≤ i
place_before p [] i d l b = absurd (omega (arith, l))
place_before p (q ∷ rest) zero d l b = omega (arith, place_here p q rest b)
place_before p (q ∷ rest) (suc i) d l b = elim (cases_Bool (is_before q p)) [
  | inl e ↦ let h = place_before p rest i d (omega (arith, l)) b in omega (arith, h, place_later p q rest e)
  | inr e ↦ omega (arith, place_here p q rest e)
]

-- the place is within the list, or at its end
pub place_within : (p : ℕ × ℕ) (xs : List (ℕ × ℕ)) → place_in p xs ≤ length xs
place_within p [] = omega arith
place_within p (q ∷ rest) = elim (cases_Bool (is_before q p)) [
  | inl e ↦ omega (arith, place_later p q rest e, place_within p rest)
  | inr e ↦ omega (arith, place_here p q rest e)
]

pub lower_first : (a b : ℕ) → (a ≡ b → ⊥) → min a b < max a b
lower_first a b d = elim (cases_lt a b) [
  | inl l ↦ omega (arith, l)
  | inr l ↦ elim (cases_lt b a) [ inl m ↦ omega (arith, m) | inr m ↦ absurd (d (omega (arith, l, m))) ]
]

-- ---- what the code looks at: the pair's numbers, its place, and whether it stands there

pub record IsLooked (a b : ℕ) (xs first second : List (ℕ × ℕ)) (low high place : ℕ) (there : Bool) : Type 0 where
  pub low_is : low ≡ min a b
  pub high_is : high ≡ max a b
  pub first_is : first ≡ xs
  pub second_is : second ≡ xs
  pub place_is : place ≡ place_in (low, high) first
  pub there_to : there ≡ true → slice_get second place ≡ Some (low, high)
  pub there_from : slice_get second place ≡ Some (low, high) → there ≡ true

module _ (a b : ℕ) (xs first second : List (ℕ × ℕ)) (low high place : ℕ) (there : Bool)
    (h : IsLooked a b xs first second low high place there) where
  pair_is : (low, high) ≡ pair_of a b
  pair_is =
      let left : ℕ → ℕ × ℕ = λ x. (x, high) in
      let right : ℕ → ℕ × ℕ = λ y. (min a b, y) in
      ap left h.low_is ∙ ap right h.high_is

  place_ok : place ≡ place_in (pair_of a b) xs
  place_ok = h.place_is ∙ ap (λ (p : ℕ × ℕ). place_in p first) pair_is ∙ ap (place_in (pair_of a b)) h.first_is

  stands : there ≡ true → Stands (pair_of a b) xs
  stands t = ap (slice_get xs) (sym place_ok) ∙ ap (λ (ys : List (ℕ × ℕ)). slice_get ys place) (sym h.second_is) ∙ h.there_to t
      ∙ ap Some pair_is

  stands_back : Stands (pair_of a b) xs → there ≡ true
  stands_back s = h.there_from (ap (λ (ys : List (ℕ × ℕ)). slice_get ys place) h.second_is ∙ ap (slice_get xs) place_ok ∙ s
      ∙ ap Some (sym pair_is))

  pub within : place ≤ length xs
  within = omega (arith, place_ok, place_within (pair_of a b) xs)

  pub after_insert : (after : List (ℕ × ℕ)) → there ≡ false → after ≡ insert xs place (low, high) → after ≡ added a b xs
  after_insert after f e =
      e ∙ ap (λ (i : ℕ). insert xs i (low, high)) place_ok ∙ ap (insert xs (place_in (pair_of a b) xs)) pair_is
      ∙ sym (put_new (pair_of a b) xs (λ s. false≢true (sym f ∙ stands_back s)))

  pub inserted_rises : (after : List (ℕ × ℕ)) → there ≡ false → (a ≡ b → ⊥) → (a < 2048) × (b < 2048) → IsRising xs
      → after ≡ insert xs place (low, high) → IsRising after
  inserted_rises after f d low r e = subst IsRising (sym (after_insert after f e))
      (rising_with (pair_of a b) xs (lower_first a b d, omega (arith, low.0, low.1)) r)

  pub there_again : there ≡ true → added a b xs ≡ xs
  there_again t = put_again (pair_of a b) xs (stands t)

  pub after_remove : (after : List (ℕ × ℕ)) → there ≡ true → after ≡ remove xs place → after ≡ removed a b xs
  after_remove after t e = e ∙ ap (remove xs) place_ok ∙ sym (take_away (pair_of a b) xs (stands t))

  pub removed_rises : (after : List (ℕ × ℕ)) → there ≡ true → IsRising xs → after ≡ remove xs place → IsRising after
  removed_rises after t r e = subst IsRising (sym (after_remove after t e)) (rising_without (pair_of a b) xs r)

  pub nothing_there : there ≡ false → IsRising xs → removed a b xs ≡ xs
  nothing_there f r = take_none (pair_of a b) xs r (λ s. false≢true (sym f ∙ stands_back s))

  pub looked : IsRising xs → there ≡ has a b xs
  looked r = has_is (pair_of a b) xs there r stands stands_back
