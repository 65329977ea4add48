-- Lists of numbers: places of a rising list, and classes of places beside the parts that they stand for.
use Rattle.std.proofs.Common.{◌≡◌, ◌∙◌, inl, inr, ◌+◌, ◌≤◌, ◌==◌, ◌&&◌, ◌||◌, not, cond, ℕ, zero, suc, Bool, true, false, List, []}
use Rattle.std.proofs.Common.{◌∷◌, filter, find, Option, Some, None, slice_get, refl, sym, ap, subst, arith}
use Rattle.std.specs.List.{AllZip}
use Rattle.std.proofs.lemmas.Bool.{cases_eq, eq-eqb, ne_eqb, eqb-true, or_cases, or_left, or_right, false≢true, or_parts}
use Rattle.std.proofs.lemmas.Option.{none-some, same_Some}
use Rattle.descent.specs.Splits.{has, stands_in, stands_once, place_from}
use Rattle.chain_proofs.specs.Dealt.{Rises}
use Rattle.chain_proofs.specs.inner.Sets.{AreAt}

-- ---- rising lists

pub above : (set : List ℕ) (low i n : ℕ) → Rises low set → slice_get set i ≡ Some n → low ≤ n
above [] low i n r e = absurd (none-some n e)
above (x ∷ xs) low zero n r e = subst (λ (m : ℕ). low ≤ m) (same_Some x n e) r.0
above (x ∷ xs) low (suc i) n r e = let later = above xs (suc x) i n r.1 e in omega (arith, later, r.0)

pub one_place : (set : List ℕ) (low i j n : ℕ) → Rises low set → slice_get set i ≡ Some n → slice_get set j ≡ Some n → i ≡ j
one_place [] low i j n r e f = absurd (none-some n e)
one_place (x ∷ xs) low zero zero n r e f = refl
one_place (x ∷ xs) low zero (suc j) n r e f = let later = above xs (suc x) j n r.1 f in let same = same_Some x n e in omega
    (arith, later, same)
one_place (x ∷ xs) low (suc i) zero n r e f = let later = above xs (suc x) i n r.1 e in let same = same_Some x n f in omega
    (arith, later, same)
one_place (x ∷ xs) low (suc i) (suc j) n r e f = ap suc (one_place xs (suc x) i j n r.1 e f)

-- ---- membership

pub place_of : (set : List ℕ) (n : ℕ) → has set n ≡ true → (i : ℕ) × (slice_get set i ≡ Some n)
place_of [] n h = absurd (false≢true h)
place_of (x ∷ xs) n h = elim (or_cases (x == n) (has xs n) h) as (λ o. (i : ℕ) × (slice_get (x ∷ xs) i ≡ Some n)) [
  | inl e ↦ (0, ap Some (eqb-true x n e))
  | inr g ↦ let found = place_of xs n g in (suc found.0, found.1)
]

pub has_at : (set : List ℕ) (i n : ℕ) → slice_get set i ≡ Some n → has set n ≡ true
has_at [] i n e = absurd (none-some n e)
has_at (x ∷ xs) zero n e = or_left (x == n) (has xs n) (eq-eqb x n (same_Some x n e))
has_at (x ∷ xs) (suc i) n e = or_right (x == n) (has xs n) (has_at xs i n e)

pub none_passes : (p : ℕ → Bool) → ((x : ℕ) → p x ≡ false) → (xs : List ℕ) → filter p xs ≡ []
none_passes p h [] = refl
none_passes p h (x ∷ xs) = ap (λ (b : Bool). cond b (x ∷ filter p xs) (filter p xs)) (h x) ∙ none_passes p h xs

pub none_found : (p : ℕ → Bool) → ((x : ℕ) → p x ≡ false) → (xs : List ℕ) → find p xs ≡ None
none_found p h [] = refl
none_found p h (x ∷ xs) = ap (λ (b : Bool). cond b (Some x) (find p xs)) (h x) ∙ none_found p h xs

-- ---- classes beside parts

module _ (set : List ℕ) (rise : Rises 0 set) (i n : ℕ) (at : slice_get set i ≡ Some n) where
  same_test : (p m : ℕ) → slice_get set p ≡ Some m → (m == n) ≡ (p == i)
  same_test p m e = elim (cases_eq p i) as (λ o. (m == n) ≡ (p == i)) [
    | inl s ↦ eq-eqb m n (same_Some m n (sym e ∙ ap (λ (k : ℕ). slice_get set k) s ∙ at)) ∙ sym (eq-eqb p i s)
    | inr d ↦ ne_eqb m n (λ s. d (one_place set 0 p i n rise (e ∙ ap Some s) at)) ∙ sym (ne_eqb p i d)
  ]

  pub same_has : (class part : List ℕ) → AreAt set class part → has part n ≡ has class i
  same_has [] [] h = refl
  same_has [] (m ∷ part) h = absurd h
  same_has (p ∷ class) [] h = absurd h
  same_has (p ∷ class) (m ∷ part) h = ap (λ (b : Bool). b || has part n) (same_test p m h.0)
      ∙ ap (λ (b : Bool). (p == i) || b) (same_has class part h.1)

  same_once : (class part : List ℕ) → AreAt set class part → stands_once part n ≡ stands_once class i
  same_once [] [] h = refl
  same_once [] (m ∷ part) h = absurd h
  same_once (p ∷ class) [] h = absurd h
  same_once (p ∷ class) (m ∷ part) h =
      ap (λ (b : Bool). cond b (not (has part n)) (stands_once part n)) (same_test p m h.0)
      ∙ ap (λ (b : Bool). cond (p == i) (not b) (stands_once part n)) (same_has class part h.1)
      ∙ ap (λ (b : Bool). cond (p == i) (not (has class i)) b) (same_once class part h.1)

  same_in : (classes parts : List (List ℕ)) → AllZip (AreAt set) classes parts → stands_in parts n ≡ stands_in classes i
  same_in [] [] h = refl
  same_in [] (part ∷ parts) h = absurd h
  same_in (class ∷ classes) [] h = absurd h
  same_in (class ∷ classes) (part ∷ parts) h = ap (λ (b : Bool). b || stands_in parts n) (same_has class part h.0)
      ∙ ap (λ (b : Bool). has class i || b) (same_in classes parts h.1)

  pub same_place : (k : ℕ) (classes parts : List (List ℕ)) → AllZip (AreAt set) classes parts
      → place_from k parts n ≡ place_from k classes i
  same_place k [] [] h = refl
  same_place k [] (part ∷ parts) h = absurd h
  same_place k (class ∷ classes) [] h = absurd h
  same_place k (class ∷ classes) (part ∷ parts) h =
      ap (λ (b : Bool). cond b (cond (stands_once part n && not (stands_in parts n)) (Some k) None) (place_from (suc k) parts n))
      (same_has class part h.0)
      ∙ ap (λ (b : Bool). cond (has class i) (cond (b && not (stands_in parts n)) (Some k) None) (place_from (suc k) parts n))
      (same_once class part h.0)
      ∙ ap (λ (b : Bool). cond (has class i) (cond (stands_once class i && not b) (Some k) None) (place_from (suc k) parts n))
      (same_in classes parts h.1)
      ∙ ap (λ (o : Option ℕ). cond (has class i) (cond (stands_once class i && not (stands_in classes i)) (Some k) None) o)
      (same_place (suc k) classes parts h.1)

-- what is in no set is in no part of it
pub in_part : (set class part : List ℕ) (n : ℕ) → AreAt set class part → has part n ≡ true → has set n ≡ true
in_part set [] [] n h g = absurd (false≢true g)
in_part set [] (m ∷ part) n h g = absurd h
in_part set (p ∷ class) [] n h g = absurd h
in_part set (p ∷ class) (m ∷ part) n h g = elim (or_cases (m == n) (has part n) g) as (λ o. has set n ≡ true) [
  | inl e ↦ has_at set p n (h.0 ∙ ap Some (eqb-true m n e))
  | inr more ↦ in_part set class part n h.1 more
]

pub in_parts : (set : List ℕ) (classes parts : List (List ℕ)) (n : ℕ) → AllZip (AreAt set) classes parts → stands_in parts n ≡ true
    → has set n ≡ true
in_parts set [] [] n h g = absurd (false≢true g)
in_parts set [] (part ∷ parts) n h g = absurd h
in_parts set (class ∷ classes) [] n h g = absurd h
in_parts set (class ∷ classes) (part ∷ parts) n h g = elim (or_cases (has part n) (stands_in parts n) g) as (λ o. has set n ≡ true) [
  | inl e ↦ in_part set class part n h.0 e
  | inr more ↦ in_parts set classes parts n h.1 more
]

pub no_place : (k : ℕ) (parts : List (List ℕ)) (n : ℕ) → stands_in parts n ≡ false → place_from k parts n ≡ None
no_place k [] n h = refl
no_place k (part ∷ parts) n h =
    let both = or_parts (has part n) (stands_in parts n) h in
    ap (λ (b : Bool). cond b (cond (stands_once part n && not (stands_in parts n)) (Some k) None) (place_from (suc k) parts n))
    both.0 ∙ no_place (suc k) parts n both.1

-- a rule's part has it
pub record IsPartWith (parts : List (List ℕ)) (first k n : ℕ) : Type 0 where
  pub more : ℕ
  pub is : k ≡ first + more
  pub part : List ℕ
  pub at : slice_get parts more ≡ Some part
  pub has_it : has part n ≡ true

pub part_with : (first k n : ℕ) (parts : List (List ℕ)) → place_from first parts n ≡ Some k → IsPartWith parts first k n
part_with first k n [] e = absurd (none-some k e)
part_with first k n (part ∷ parts) e = go (has part n) refl e (λ f. part_with (suc first) k n parts f)
  where
    here : (b : Bool) → has part n ≡ true → cond b (Some first) None ≡ Some k → IsPartWith (part ∷ parts) first k n
    here true h f = let same = same_Some first k f in record { more = 0; is = omega (arith, same); part = part; at = refl; has_it = h }
    here false h f = absurd (none-some k f)

    go : (b : Bool) → has part n ≡ b → cond b (cond (stands_once part n && not (stands_in parts n)) (Some first) None)
        (place_from (suc first) parts n) ≡ Some k → (place_from (suc first) parts n ≡ Some k → IsPartWith parts (suc first) k n)
        → IsPartWith (part ∷ parts) first k n
    go true h f rest = here (stands_once part n && not (stands_in parts n)) h f
    go false h f rest = let later = rest f in record
        { more = suc later.more; is = omega (arith, later.is); part = later.part; at = later.at; has_it = later.has_it }
