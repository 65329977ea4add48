-- A visit's pairs are closed: those at the positions are among them, and what a pair of them names.
use Rattle.std.proofs.Common.{◌≡◌, ◌⊎◌, ℕ, zero, suc, ◌+◌, ◌<◌, Bool, true, not, cond, List, [], ◌∷◌, ◌++◌, length, Some, refl, sym}
use Rattle.std.proofs.Common.{ap, subst, ◌∙◌, inl, inr, arith}
use Rattle.std.specs.Prelude.{slice_get}
use Rattle.std.specs.List.{AllByRecursion}
use Rattle.std.proofs.lemmas.Bool.{or_left, or_right, or_cases, cases_Bool, false≢true}
use Rattle.std.proofs.lemmas.List.Folds.{list_any-append}
use Rattle.std.proofs.lemmas.Option.{slice_get_within, none-some}
use Rattle.jvm_values.proofs.Options.{some_is}
use Rattle.abs_cells.specs.AbstractStates.{AbstractState}
use Rattle.abs_cells.specs.PairLists.{is_same}
use Rattle.abs_cells.proofs.PairLaws.{same_is, is_same_from}
use Rattle.abs_widen.specs.Visits.{is_among, Visits, AreDifferent, IsPaired, pairs_below, ArePairs, position_pairs}
use Rattle.abs_widen.specs.Visits.Visits.{ends, again, first}
use Rattle.abs_widen.specs.Visits.IsPaired.{placed, named}
use Rattle.abs_widen.specs.Widening.{number_of}
use Rattle.abs_widen.proofs.Visiting.{different_more}

-- ---- pairs among others

pub among_front : (p : ℕ × ℕ) (xs ys : List (ℕ × ℕ)) → is_among p xs ≡ true → is_among p (xs ++ ys) ≡ true
among_front p xs ys h = list_any-append (is_same p) xs ys ∙ or_left (is_among p xs) (is_among p ys) h

pub among_back : (p : ℕ × ℕ) (xs ys : List (ℕ × ℕ)) → is_among p ys ≡ true → is_among p (xs ++ ys) ≡ true
among_back p xs ys h = list_any-append (is_same p) xs ys ∙ or_right (is_among p xs) (is_among p ys) h

pub among_either : (p : ℕ × ℕ) (xs ys : List (ℕ × ℕ)) → is_among p (xs ++ ys) ≡ true → (is_among p xs ≡ true) ⊎ (is_among p ys ≡ true)
among_either p xs ys h = or_cases (is_among p xs) (is_among p ys) (sym (list_any-append (is_same p) xs ys) ∙ h)

pub among_first : (p q : ℕ × ℕ) (xs : List (ℕ × ℕ)) → p ≡ q → is_among p (q ∷ xs) ≡ true
among_first p q xs e = or_left (is_same p q) (is_among p xs) (is_same_from p q e)

pub among_cons : (p q : ℕ × ℕ) (xs : List (ℕ × ℕ)) → is_among p (q ∷ xs) ≡ true → (p ≡ q) ⊎ (is_among p xs ≡ true)
among_cons p q xs h = elim (or_cases (is_same p q) (is_among p xs) h) [
  | inl s ↦ inl (same_is p q s)
  | inr t ↦ inr t
]

-- what holds of all holds of each that is among them
pub holds_among : (P : ℕ × ℕ → Type 0) (xs : List (ℕ × ℕ)) (p : ℕ × ℕ) → AllByRecursion P xs → is_among p xs ≡ true → P p
holds_among P [] p all h = absurd (false≢true h)
holds_among P (x ∷ xs) p all h = elim (among_cons p x xs h) [
  | inl e ↦ subst P (sym e) all.0
  | inr t ↦ holds_among P xs p all.1 t
]

-- ---- numbers of pairs

pub number_at : (pairs : List (ℕ × ℕ)) (p : ℕ × ℕ) → is_among p pairs ≡ true → slice_get pairs (number_of pairs p) ≡ Some p
number_at [] p h = absurd (false≢true h)
number_at (x ∷ xs) p h = elim (cases_Bool (is_same p x)) [
  | inl t ↦ ap (λ (b : Bool). slice_get (x ∷ xs) (cond (not b) (1 + number_of xs p) 0)) t ∙ ap Some (sym (same_is p x t))
  | inr f ↦
      let on : 1 + number_of xs p ≡ suc (number_of xs p) = omega arith in
      ap (λ (b : Bool). slice_get (x ∷ xs) (cond (not b) (1 + number_of xs p) 0)) f ∙ ap (slice_get (x ∷ xs)) on
      ∙ number_at xs p (elim (among_cons p x xs h) [
        | inl e ↦ absurd (false≢true (sym f ∙ is_same_from p x e))
        | inr t ↦ t
      ])
]

pub number_low : (pairs : List (ℕ × ℕ)) (p : ℕ × ℕ) → is_among p pairs ≡ true → number_of pairs p < length pairs
number_low pairs p h = slice_get_within pairs (number_of pairs p) p (number_at pairs p h)

-- what stands at a place is among them
pub among_at : (pairs : List (ℕ × ℕ)) (n : ℕ) (p : ℕ × ℕ) → slice_get pairs n ≡ Some p → is_among p pairs ≡ true
among_at [] n p e = absurd (none-some p e)
among_at (x ∷ xs) zero p e = among_first p x xs (sym (some_is e))
among_at (x ∷ xs) (suc n) p e = or_right (is_same p x) (is_among p xs) (among_at xs n p e)

-- no pair stands at two places
pub one_place : (pairs : List (ℕ × ℕ)) → AreDifferent pairs → (m n : ℕ) (p : ℕ × ℕ) → slice_get pairs m ≡ Some p
    → slice_get pairs n ≡ Some p → m ≡ n
one_place [] h m n p e f = absurd (none-some p e)
one_place (x ∷ xs) h zero zero p e f = refl
one_place (x ∷ xs) h zero (suc n) p e f = absurd (false≢true (sym h.0 ∙ ap (λ (q : ℕ × ℕ). is_among q xs) (some_is e) ∙ among_at xs n p f))
one_place (x ∷ xs) h (suc m) zero p e f = absurd (false≢true (sym h.0 ∙ ap (λ (q : ℕ × ℕ). is_among q xs) (some_is f) ∙ among_at xs m p e))
one_place (x ∷ xs) h (suc m) (suc n) p e f = ap suc (one_place xs h.1 m n p e f)

-- ---- visits

module _ (a b : AbstractState) where
  kept_met : (met todo all : List (ℕ × ℕ)) → Visits a b met todo all → (p : ℕ × ℕ) → is_among p met ≡ true → is_among p all ≡ true
  kept_met met todo all (ends m) p h = h
  kept_met met todo all (again m rest l pair k v) p h = kept_met m rest all v p h
  kept_met met todo all (first m rest l pair k v) p h = kept_met (m ++ pair ∷ []) (pairs_below a b pair ++ rest) all v p
      (among_front p m (pair ∷ []) h)

  todo_met : (met todo all : List (ℕ × ℕ)) → Visits a b met todo all → (p : ℕ × ℕ) → is_among p todo ≡ true → is_among p all ≡ true
  todo_met met todo all (ends m) p h = absurd (false≢true h)
  todo_met met todo all (again m rest l pair k v) p h = elim (among_cons p pair rest h) [
    | inl e ↦ kept_met m rest all v p (subst (λ (q : ℕ × ℕ). is_among q m ≡ true) (sym e) k)
    | inr t ↦ todo_met m rest all v p t
  ]
  todo_met met todo all (first m rest l pair k v) p h = elim (among_cons p pair rest h) [
    | inl e ↦ kept_met (m ++ pair ∷ []) (pairs_below a b pair ++ rest) all v p (among_back p m (pair ∷ []) (among_first p pair [] e))
    | inr t ↦ todo_met (m ++ pair ∷ []) (pairs_below a b pair ++ rest) all v p (among_back p (pairs_below a b pair) rest t)
  ]

  -- what a met pair names was met or is still to be visited
  abbrev IsClosedWith : List (ℕ × ℕ) → List (ℕ × ℕ) → Type 0
  IsClosedWith met todo = (q r : ℕ × ℕ) → is_among q met ≡ true → is_among r (pairs_below a b q) ≡ true
      → (is_among r met ≡ true) ⊎ (is_among r todo ≡ true)

  closed_again : (met rest : List (ℕ × ℕ)) (pair : ℕ × ℕ) → is_among pair met ≡ true → IsClosedWith met (pair ∷ rest)
      → IsClosedWith met rest
  closed_again met rest pair k closed q r h n = elim (closed q r h n) [
    | inl t ↦ inl t
    | inr t ↦ elim (among_cons r pair rest t) [
      | inl e ↦ inl (subst (λ (x : ℕ × ℕ). is_among x met ≡ true) (sym e) k)
      | inr u ↦ inr u
    ]
  ]

  closed_first : (met rest : List (ℕ × ℕ)) (pair : ℕ × ℕ) → IsClosedWith met (pair ∷ rest)
      → IsClosedWith (met ++ pair ∷ []) (pairs_below a b pair ++ rest)
  closed_first met rest pair closed q r h n = elim (among_either q met (pair ∷ []) h) [
    | inl t ↦ elim (closed q r t n) [
      | inl u ↦ inl (among_front r met (pair ∷ []) u)
      | inr u ↦ elim (among_cons r pair rest u) [
        | inl e ↦ inl (among_back r met (pair ∷ []) (among_first r pair [] e))
        | inr w ↦ inr (among_back r (pairs_below a b pair) rest w)
      ]
    ]
    | inr t ↦ elim (among_cons q pair [] t) [
      | inl e ↦ inr (among_front r (pairs_below a b pair) rest (subst (λ (x : ℕ × ℕ). is_among r (pairs_below a b x) ≡ true) e n))
      | inr u ↦ absurd (false≢true u)
    ]
  ]

  closed_all : (met todo all : List (ℕ × ℕ)) → Visits a b met todo all → IsClosedWith met todo → (q r : ℕ × ℕ)
      → is_among q all ≡ true → is_among r (pairs_below a b q) ≡ true → is_among r all ≡ true
  closed_all met todo all (ends m) closed q r h n = elim (closed q r h n) [
    | inl t ↦ t
    | inr t ↦ absurd (false≢true t)
  ]
  closed_all met todo all (again m rest l pair k v) closed q r h n = closed_all m rest all v (closed_again m rest pair k closed) q r h n
  closed_all met todo all (first m rest l pair k v) closed q r h n = closed_all (m ++ pair ∷ []) (pairs_below a b pair ++ rest) all
      v (closed_first m rest pair closed) q r h n

  all_paired : (met todo all : List (ℕ × ℕ)) → Visits a b met todo all → ((q : ℕ × ℕ) → is_among q met ≡ true → IsPaired a b q)
      → ((q : ℕ × ℕ) → is_among q todo ≡ true → IsPaired a b q) → (p : ℕ × ℕ) → is_among p all ≡ true → IsPaired a b p
  all_paired met todo all (ends m) h k p e = h p e
  all_paired met todo all (again m rest l pair j v) h k p e = all_paired m rest all v h
      (λ q t. k q (or_right (is_same q pair) (is_among q rest) t)) p e
  all_paired met todo all (first m rest l pair j v) h k p e =
      let here : IsPaired a b pair = k pair (among_first pair pair rest refl) in
      all_paired (m ++ pair ∷ []) (pairs_below a b pair ++ rest) all v
      (λ q t. elim (among_either q m (pair ∷ []) t) [
        | inl u ↦ h q u
        | inr u ↦ elim (among_cons q pair [] u) [
          | inl s ↦ subst (IsPaired a b) (sym s) here
          | inr s ↦ absurd (false≢true s)
        ]
      ])
      (λ q t. elim (among_either q (pairs_below a b pair) rest t) [
        | inl u ↦ named pair q here u
        | inr u ↦ k q (or_right (is_same q pair) (is_among q rest) u)
      ])
      p e

  all_different : (met todo all : List (ℕ × ℕ)) → Visits a b met todo all → AreDifferent met → AreDifferent all
  all_different met todo all (ends m) h = h
  all_different met todo all (again m rest l pair j v) h = all_different m rest all v h
  all_different met todo all (first m rest l pair j v) h = all_different (m ++ pair ∷ []) (pairs_below a b pair ++ rest) all v
      (different_more m pair h j)

  module _ (pairs : List (ℕ × ℕ)) (are : ArePairs a b pairs) where
    pub positions_among : (p : ℕ × ℕ) → is_among p (position_pairs a b) ≡ true → is_among p pairs ≡ true
    positions_among p h = todo_met [] (position_pairs a b) pairs are p h

    pub below_among : (q r : ℕ × ℕ) → is_among q pairs ≡ true → is_among r (pairs_below a b q) ≡ true → is_among r pairs ≡ true
    below_among q r h n = closed_all [] (position_pairs a b) pairs are (λ x y k l. absurd (false≢true k)) q r h n

    pub paired_among : (p : ℕ × ℕ) → IsPaired a b p → is_among p pairs ≡ true
    paired_among p (placed x h) = positions_among p h
    paired_among p (named above x k h) = below_among above p (paired_among above k) h

    pub among_paired : (p : ℕ × ℕ) → is_among p pairs ≡ true → IsPaired a b p
    among_paired p h = all_paired [] (position_pairs a b) pairs are (λ q t. absurd (false≢true t)) (λ q t. placed q t) p h

    pub pairs_differ : AreDifferent pairs
    pairs_differ = all_different [] (position_pairs a b) pairs are tt
