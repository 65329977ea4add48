-- The first case whose child has too many ids.
use Rattle.std.proofs.Common.{◌≡◌, ℕ, zero, suc, ◌+◌, ◌<◌, ◌≤◌, Bool, false, List, [], ◌∷◌, ◌++◌, length, map, get_or, take, drop}
use Rattle.std.proofs.Common.{Result, Ok, Err, inl, inr, refl, sym, ap, subst, ◌∙◌, arith}
use Rattle.std.specs.Prelude.{◌↔◌, nat_lt, filter, IsErrAnd}
use Rattle.std.specs.List.{list_any}
use Rattle.std.proofs.lemmas.Bool.{cases_Bool, or_from, ltb-true, lt-ltb, cond-true, cond-false}
use Rattle.std.proofs.lemmas.List.{take_all, get_or_default, length-take, take-append-drop}
use Rattle.std.proofs.lemmas.List.Elements.{All-nil, All-cons, All-head, All-tail}
use Rattle.std.proofs.lemmas.Option.{none-some}
use Rattle.list_views.proofs.Items.{length_mapped}
use Rattle.jvm_values.specs.TypedHeaps.{WorldTypes}
use Rattle.jvm_values.proofs.Options.{some_is}
use Rattle.abs_cells.specs.AbstractStates.{AbstractState}
use Rattle.abs_heap.specs.declared.fault.SplitFault.{SplitFault}
use Rattle.abs_heap.specs.declared.fault.SplitFault.TheVariants.{TooManyIds, Memory}
use Rattle.abs_heap.specs.Counts.{case_counts, IsFirstTooMany, new_ids}
use Rattle.abs_heap.specs.Refining.{Case}
use Rattle.abs_heap.specs.inner.Splitting.{crowds, first_crowd}
use Rattle.abs_heap.proofs.Listing.{among_joined, among_more, has_room_for}

pub ok_no_err : {A E : Type 0} (x : A) (y : E) → Ok x ≡ Err y → ⊥
ok_no_err x y e = cc

one_ok : {A E : Type 0} (r : Result A E) (x y : A) → r ≡ Ok x → r ≡ Ok y → x ≡ y
one_ok r x y e f = cc

one_err : {A E : Type 0} (r : Result A E) (x y : E) → r ≡ Err x → r ≡ Err y → x ≡ y
one_err r x y e f = cc

one_fault : {A : Type 0} (r : Result A SplitFault) (x y : ℕ) → r ≡ Err (TooManyIds x) → r ≡ Err (TooManyIds y) → x ≡ y
one_fault r x y e f = cc

-- want of memory is no child that has too many ids
pub memory_alone : {A : Type 0} (r : Result A SplitFault) (n : ℕ) → IsErrAnd r (λ e. e ≡ Memory) → r ≡ Err (TooManyIds n) → ⊥
memory_alone (Ok x) n h e = absurd h
memory_alone (Err y) n h e = cc

-- what the exit of a `?` returns
pub passed_on : {A : Type 0} (r w : Result A ℕ) (k : ℕ) → IsErrAnd r (λ e. e ≡ k) → w ≡ Err k → r ≡ w
passed_on (Ok x) w k h e = absurd h
passed_on (Err y) w k h e = ap (λ (i : ℕ). Err i) h ∙ sym e

-- ---- one list of cases behind another

module _ (test : Case → Bool) where
  pub crowd_joined : (xs ys : List Case) (n m : ℕ) → first_crowd test xs n ≡ Ok m → first_crowd test (xs ++ ys) n ≡ first_crowd test ys m
  crowd_joined [] ys n m e = ap (first_crowd test ys) (one_ok (Ok n) n m refl e)
  crowd_joined (c ∷ xs) ys n m e = elim (cases_Bool (test c)) [
    | inl t ↦ absurd (ok_no_err m n (sym e ∙ cond-true (test c) _ _ t))
    | inr f ↦ cond-false (test c) _ _ f ∙ crowd_joined xs ys (n + 1) m (sym (cond-false (test c) _ _ f) ∙ e)
  ]

  pub crowd_stays : (xs ys : List Case) (n k : ℕ) → first_crowd test xs n ≡ Err k → first_crowd test (xs ++ ys) n ≡ Err k
  crowd_stays [] ys n k e = absurd (ok_no_err n k e)
  crowd_stays (c ∷ xs) ys n k e = elim (cases_Bool (test c)) [
    | inl t ↦ cond-true (test c) _ _ t ∙ (sym (cond-true (test c) _ _ t) ∙ e)
    | inr f ↦ cond-false (test c) _ _ f ∙ crowd_stays xs ys (n + 1) k (sym (cond-false (test c) _ _ f) ∙ e)
  ]

  pub crowd_counts : (xs : List Case) (n m : ℕ) → first_crowd test xs n ≡ Ok m → m ≡ n + length xs
  crowd_counts [] n m e = let k = one_ok (Ok n) n m refl e in omega (arith, k)
  crowd_counts (c ∷ xs) n m e = elim (cases_Bool (test c)) [
    | inl t ↦ absurd (ok_no_err m n (sym e ∙ cond-true (test c) _ _ t))
    | inr f ↦ let k = crowd_counts xs (n + 1) m (sym (cond-false (test c) _ _ f) ∙ e) in omega (arith, k)
  ]

  pub crowd_none : (xs : List Case) (n m : ℕ) → first_crowd test xs n ≡ Ok m → list_any test xs ≡ false
  crowd_none [] n m e = refl
  crowd_none (c ∷ xs) n m e = elim (cases_Bool (test c)) [
    | inl t ↦ absurd (ok_no_err m n (sym e ∙ cond-true (test c) _ _ t))
    | inr f ↦ or_from (test c) (list_any test xs) f (crowd_none xs (n + 1) m (sym (cond-false (test c) _ _ f) ∙ e))
  ]

-- ---- those of a list that pass a test, made into cases

filter_short : {X : Type 0} (test : X → Bool) (xs : List X) → length (filter test xs) ≤ length xs
filter_short test [] = omega arith
filter_short test (x ∷ xs) = elim (cases_Bool (test x)) [
  | inl t ↦ let k = ap (λ (ys : List _). length ys) (cond-true (test x) (x ∷ filter test xs) (filter test xs) t) in let h =
      filter_short test xs in omega (arith, k, h)
  | inr f ↦ let k = ap (λ (ys : List _). length ys) (cond-false (test x) (x ∷ filter test xs) (filter test xs) f) in let h =
      filter_short test xs in omega (arith, k, h)
]

module _ {X : Type 0} (make : X → Case) (among_test : X → Bool) (test : Case → Bool) where
  abbrev some : List X → List Case
  some xs = map make (filter among_test xs)

  pub crowd_more : (xs : List X) (i : ℕ) (x : X) (n m : ℕ) (r : Result ℕ ℕ) → i < length xs → x ≡ get_or xs i x
      → first_crowd test (some (take i xs)) n ≡ Ok m → r ≡ first_crowd test (some (x ∷ [])) m
      → first_crowd test (some (take (i + 1) xs)) n ≡ r
  crowd_more xs i x n m r l e was is =
      ap (λ (cs : List Case). first_crowd test cs n) (among_more make among_test test xs i x l e)
      ∙ crowd_joined test (some (take i xs)) (some (x ∷ [])) n m was ∙ sym is

  pub crowd_more_at : (xs : List X) (i : ℕ) (d : X) (n m : ℕ) (r : Result ℕ ℕ) → i < length xs
      → first_crowd test (some (take i xs)) n ≡ Ok m → r ≡ first_crowd test (some (get_or xs i d ∷ [])) m
      → first_crowd test (some (take (i + 1) xs)) n ≡ r
  crowd_more_at xs i d n m r l was is = crowd_more xs i (get_or xs i d) n m r l (get_or_default xs i d (get_or xs i d) l) was is

  pub crowd_found : (xs : List X) (i n k : ℕ) → first_crowd test (some (take i xs)) n ≡ Err k → first_crowd test (some xs) n ≡ Err k
  crowd_found xs i n k h =
      ap (λ (ys : List X). first_crowd test (some ys) n) (sym (take-append-drop i xs))
      ∙ ap (λ (cs : List Case). first_crowd test cs n) (among_joined make among_test test (take i xs) (drop i xs))
      ∙ crowd_stays test (some (take i xs)) (some (drop i xs)) n k h

  pub crowd_all : (xs : List X) (i n : ℕ) (r : Result ℕ ℕ) → length xs ≤ i → first_crowd test (some (take i xs)) n ≡ r
      → first_crowd test (some xs) n ≡ r
  crowd_all xs i n r l h = ap (λ (ys : List X). first_crowd test (some ys) n) (sym (take_all i xs l)) ∙ h

  -- no more have passed than were looked at
  pub crowd_low : (xs : List X) (i n m : ℕ) → first_crowd test (some (take i xs)) n ≡ Ok m → m ≤ n + i
  crowd_low xs i n m h =
      let count = crowd_counts test (some (take i xs)) n m h in
      let mapped = length_mapped make (filter among_test (take i xs)) in
      let short = filter_short among_test (take i xs) in
      let taken = length-take i xs in
      omega (arith, count, mapped, short, taken)

-- ---- the first count that is too large

module _ (types : WorldTypes) (state : AbstractState) where
  few_there : (count : ℕ) → count ≤ 512 → nat_lt 512 count ≡ false
  few_there count l = elim (cases_Bool (nat_lt 512 count)) [
    | inl t ↦ absurd (let k = ltb-true 512 count t in omega (arith, k, l))
    | inr f ↦ f
  ]

  pub to_first : (cases : List Case) (n k : ℕ) → first_crowd (crowds types state) cases n ≡ Err k
      → (j : ℕ) × ((k ≡ n + j) × IsFirstTooMany (case_counts types state cases) j)
  to_first [] n k e = absurd (ok_no_err n k e)
  to_first (c ∷ cases) n k e = elim (cases_Bool (crowds types state c)) [
    | inl t ↦
        let same = one_err (Err n) n k refl (sym (cond-true (crowds types state c) _ _ t) ∙ e) in (
          0,
          (
            omega (arith, same),
            record {
              count = length state.cells + new_ids types c;
              is = refl;
              many = ltb-true 512
                  (length state.cells + new_ids types c) t;
              before = All-nil (λ (count : ℕ). count ≤ 512);
            },
          ),
        )
    | inr f ↦
        let p = to_first cases (n + 1) k (sym (cond-false (crowds types state c) _ _ f) ∙ e) in
        let same = p.1.0 in (
          suc p.0,
          (
            omega (arith, same),
            record {
              count = p.1.1.count;
              is = p.1.1.is;
              many = p.1.1.many;
              before = All-cons (λ (count : ℕ). count ≤ 512) (length state.cells + new_ids types c)
                  (take p.0 (case_counts types state cases)) (has_room_for (length state.cells) (new_ids types c) f) p.1.1.before;
            },
          ),
        )
  ]

  pub from_first : (cases : List Case) (n j : ℕ) → IsFirstTooMany (case_counts types state cases) j
      → first_crowd (crowds types state) cases n ≡ Err (n + j)
  from_first [] n j h = absurd (none-some h.count h.is)
  from_first (c ∷ cases) n zero h =
      let many = subst (λ (count : ℕ). 512 < count) (sym (some_is h.is)) h.many in
      cond-true (crowds types state c) _ _ (lt-ltb 512 (length state.cells + new_ids types c) many) ∙ ap (λ (i : ℕ). Err i) (omega arith)
  from_first (c ∷ cases) n (suc j) h =
      let few = All-head (λ (count : ℕ). count ≤ 512) (length state.cells + new_ids types c)
      (take j (case_counts types state cases)) h.before in
      let rest = All-tail (λ (count : ℕ). count ≤ 512) (length state.cells + new_ids types c)
      (take j (case_counts types state cases)) h.before in
      cond-false (crowds types state c) _ _ (few_there (length state.cells + new_ids types c) few)
      ∙ from_first cases (n + 1) j (record { count = h.count; is = h.is; many = h.many; before = rest })
      ∙ ap (λ (i : ℕ). Err i) (omega arith)

  -- the answer of a search that has found one, and of one that has not
  pub found_many : {A : Type 0} (cases : List Case) (child n : ℕ) (r : Result A SplitFault) → r ≡ Err (TooManyIds child)
      → first_crowd (crowds types state) cases 0 ≡ Err child → (r ≡ Err (TooManyIds n)) ↔ IsFirstTooMany (case_counts types state cases) n
  found_many cases child n r is found = (
    λ h.
        let p = to_first cases 0 child found in
        let same : child ≡ n = one_fault r child n is h in
        let k = p.1.0 in
        subst (IsFirstTooMany (case_counts types state cases)) (omega (arith, k, same)) p.1.1,
    λ h.
        let same : child ≡ 0 + n = one_err (first_crowd (crowds types state) cases 0) child (0 + n) found (from_first cases 0 n h) in
        is ∙ ap (λ (i : ℕ). Err (TooManyIds i)) (omega (arith, same)),
  )

  pub none_many : (cases : List Case) (passed n : ℕ) (fault : Type 0) → (fault → ⊥)
      → first_crowd (crowds types state) cases 0 ≡ Ok passed → fault ↔ IsFirstTooMany (case_counts types state cases) n
  none_many cases passed n fault never passes =
      (λ h. absurd (never h), λ h. absurd (ok_no_err passed (0 + n) (sym passes ∙ from_first cases 0 n h)))
