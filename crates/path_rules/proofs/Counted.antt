-- Counts that follow from right ones are right, and so are counts that follow from themselves.
use Rattle.std.proofs.Common.{◌≡◌, ◌⊎◌, inl, inr, ℕ, zero, suc, ◌+◌, ◌<◌, ◌≤◌, Bool, true, false, cond, List, [], ◌∷◌, length}
use Rattle.std.proofs.Common.{map, get_or, subst, ap, arith, refl, ◌∙◌, sym}
use Rattle.std.specs.Prelude.{nat_lt, not}
use Rattle.std.proofs.lemmas.Bool.{ltb-true, ltb-false, cases_lt}
use Rattle.std.proofs.lemmas.List.{length-append, length-map}
use Rattle.list_views.proofs.Orders.{zero_before}
use Rattle.number_graphs.specs.Lists.{Has, row_at, Edge, Fall}
use Rattle.path_rules.specs.Successors.{has_mark, inner_row, most_of}
use Rattle.path_rules.specs.inner.Ways.{ways_by, AreWays, counted, counted_on, count_over, count_row, AreCounts}

-- ---- counted numbers

abbrev pub AreAlike : ℕ → ℕ → Type 0
AreAlike a b = (a ≡ b) ⊎ ((4097 ≤ a) × (4097 ≤ b))

pub counted_few : (n : ℕ) → n < 4097 → counted n ≡ n
counted_few n l = at (nat_lt n 4097) refl
  where
    at : (b : Bool) → nat_lt n 4097 ≡ b → cond b n 4097 ≡ n
    at true e = refl
    at false e = let k = ltb-false n 4097 e in absurd (omega (arith, k, l))

pub counted_many : (n : ℕ) → 4097 ≤ n → counted n ≡ 4097
counted_many n l = at (nat_lt n 4097) refl
  where
    at : (b : Bool) → nat_lt n 4097 ≡ b → cond b n 4097 ≡ 4097
    at true e = let k = ltb-true n 4097 e in absurd (omega (arith, k, l))
    at false e = refl

pub counted_alike : (a b : ℕ) → AreAlike a b → counted a ≡ counted b
counted_alike a b (inl s) = ap counted s
counted_alike a b (inr m) = counted_many a m.0 ∙ sym (counted_many b m.1)

-- a number's count is the number, or both are large
pub count_alike : (n : ℕ) → AreAlike (counted n) n
count_alike n = elim (cases_lt n 4097) as (λ o. AreAlike (counted n) n) [
  | inl l ↦ inl (counted_few n l)
  | inr m ↦ inr (subst (λ (x : ℕ). 4097 ≤ x) (sym (counted_many n m)) (omega arith), m)
]

pub sums_alike : (a b c d : ℕ) → AreAlike a b → AreAlike c d → AreAlike (a + c) (b + d)
sums_alike a b c d (inl s) (inl t) = inl (omega (arith, s, t))
sums_alike a b c d (inl s) (inr t) = let l = t.0 in let r = t.1 in inr (omega (arith, l), omega (arith, r))
sums_alike a b c d (inr s) t = let l = s.0 in let r = s.1 in inr (omega (arith, l), omega (arith, r))

-- ---- rows

abbrev pub added_up : (ℕ → ℕ) → List ℕ → ℕ
added_up long [] = 0
added_up long (to ∷ row) = long to + added_up long row

abbrev pub ways_over : (ℕ → List (List ℕ)) → List Bool → ℕ → List (List ℕ)
ways_over ways marks to = cond (has_mark marks to) ([] ∷ []) (ways to)

abbrev pub IsRight : (ℕ → List (List ℕ)) → List ℕ → ℕ → Type 0
IsRight ways counts node = get_or counts node 0 ≡ counted (length (ways node))

pub over_alike : (ways : ℕ → List (List ℕ)) (marks : List Bool) (counts : List ℕ) (to : ℕ)
    → (has_mark marks to ≡ false → IsRight ways counts to) → AreAlike (count_over marks counts to) (length (ways_over ways marks to))
over_alike ways marks counts to right = at (has_mark marks to) refl
  where
    at : (b : Bool) → has_mark marks to ≡ b → AreAlike (cond b 1 (get_or counts to 0)) (length (cond b ([] ∷ []) (ways to)))
    at true e = inl refl
    at false e = subst (λ (n : ℕ). AreAlike n (length (ways to))) (sym (right e)) (count_alike (length (ways to)))

pub alike_both : (a b c : ℕ) → AreAlike a b → AreAlike b c → AreAlike a c
alike_both a b c (inl s) t = subst (λ (x : ℕ). AreAlike x c) (sym s) t
alike_both a b c (inr s) (inl t) = inr (s.0, subst (λ (x : ℕ). 4097 ≤ x) t s.1)
alike_both a b c (inr s) (inr t) = inr (s.0, t.1)

-- ways of things that have so many each, in a row
pub counts_alike : (size : ℕ → ℕ) (long : ℕ → ℕ) (count n : ℕ) (row : List ℕ)
    → ((to : ℕ) → Has row to → AreAlike (size to) (long to)) → AreAlike count n
    → AreAlike (counted_on size count row) (n + added_up long row)
counts_alike size long count n [] each alike = subst (λ (x : ℕ). AreAlike count x) (omega arith) alike
counts_alike size long count n (to ∷ row) each alike =
    subst (λ (x : ℕ). AreAlike (counted_on size (counted (count + size to)) row) x) (omega arith)
    (counts_alike size long (counted (count + size to)) (n + long to) row (λ t h. each t (inr h))
    (alike_both (counted (count + size to)) (count + size to) (n + long to) (count_alike (count + size to))
    (sums_alike count n (size to) (long to) alike (each to (inl refl)))))

ways_long : (ways : ℕ → List (List ℕ)) (marks : List Bool) (place : ℕ) (row : List ℕ)
    → length (ways_by ways marks place row) ≡ added_up (λ (to : ℕ). length (ways_over ways marks to)) row
ways_long ways marks place [] = refl
ways_long ways marks place (to ∷ row) =
    length-append (map (λ (way : List ℕ). place ∷ way) (ways_over ways marks to)) (ways_by ways marks (suc place) row)
    ∙ (ap (λ (n : ℕ). n + length (ways_by ways marks (suc place) row))
    (length-map (ways_over ways marks to) (λ (way : List ℕ). place ∷ way))
    ∙ ap (λ (n : ℕ). length (ways_over ways marks to) + n) (ways_long ways marks (suc place) row))

-- a count that is counted already
counted_again : (size : ℕ → ℕ) (count : ℕ) (row : List ℕ) → counted count ≡ count → counted (counted_on size count row) ≡ counted_on
    size count row
counted_again size count [] e = e
counted_again size count (to ∷ row) e = counted_again size (counted (count + size to)) row
    (counted_alike (counted (count + size to)) (count + size to) (count_alike (count + size to)))

pub counted_all : (size long : ℕ → ℕ) (row : List ℕ) → ((to : ℕ) → Has row to → AreAlike (size to) (long to))
    → counted_on size 0 row ≡ counted (added_up long row)
counted_all size long row each = sym (counted_again size 0 row refl) ∙ counted_alike (counted_on size 0 row) (added_up long row)
    (subst (λ (n : ℕ). AreAlike (counted_on size 0 row) n) (zero_before (added_up long row))
    (counts_alike size long 0 0 row each (inl refl)))

pub row_right : (ways : ℕ → List (List ℕ)) (marks : List Bool) (counts : List ℕ) (row : List ℕ)
    → ((to : ℕ) → Has row to → has_mark marks to ≡ false → IsRight ways counts to)
    → count_row marks counts row ≡ counted (length (ways_by ways marks 0 row))
row_right ways marks counts row right =
    counted_all (count_over marks counts) (λ (to : ℕ). length (ways_over ways marks to)) row
    (λ to h. over_alike ways marks counts to (right to h))
    ∙ ap counted (sym (ways_long ways marks 0 row))

-- ---- rows of mapped lists

pub row_mapped : (f : List ℕ → List ℕ) (lists : List (List ℕ)) (node : ℕ) → f [] ≡ [] → row_at (map f lists) node ≡ f (row_at lists node)
row_mapped f [] node none = sym none
row_mapped f (row ∷ lists) zero none = refl
row_mapped f (row ∷ lists) (suc node) none = row_mapped f lists node none

number_mapped : (f : List ℕ → ℕ) (lists : List (List ℕ)) (node : ℕ) → f [] ≡ 0 → get_or (map f lists) node 0 ≡ f (row_at lists node)
number_mapped f [] node none = sym none
number_mapped f (row ∷ lists) zero none = refl
number_mapped f (row ∷ lists) (suc node) none = number_mapped f lists node none

-- ---- edges to nodes that are no cuts

pub kept_has : (marks : List Bool) (row : List ℕ) (to : ℕ) → Has row to → has_mark marks to ≡ false → Has (inner_row marks row) to
kept_has marks [] to h e = h
kept_has marks (x ∷ row) to (inl s) e = rw (ap (has_mark marks) s ∙ e) (inl s)
kept_has marks (x ∷ row) to (inr h) e = at (kept_has marks row to h e) (has_mark marks x)
  where
    at : Has (inner_row marks row) to → (b : Bool) → Has (cond (not b) (x ∷ inner_row marks row) (inner_row marks row)) to
    at more true = more
    at more false = inr more

pub has_kept : (marks : List Bool) (row : List ℕ) (to : ℕ) → Has (inner_row marks row) to → Has row to × (has_mark marks to ≡ false)
has_kept marks [] to h = absurd h
has_kept marks (x ∷ row) to h = at (has_kept marks row to) (has_mark marks x) refl h
  where
    at : (Has (inner_row marks row) to → Has row to × (has_mark marks to ≡ false)) → (b : Bool) → has_mark marks x ≡ b
        → Has (cond (not b) (x ∷ inner_row marks row) (inner_row marks row)) to → Has (x ∷ row) to × (has_mark marks to ≡ false)
    at rest true k g = let more = rest g in (inr more.0, more.1)
    at rest false k (inl s) = (inl s, ap (has_mark marks) (sym s) ∙ k)
    at rest false k (inr g) = let more = rest g in (inr more.0, more.1)

pub inner_edge : (lists : List (List ℕ)) (marks : List Bool) (node to : ℕ) → Has (row_at lists node) to → has_mark marks to ≡ false
    → Edge (map (inner_row marks) lists) node to
inner_edge lists marks node to h e = subst (λ (row : List ℕ). Has row to) (sym (row_mapped (inner_row marks) lists node refl))
    (kept_has marks (row_at lists node) to h e)

pub edge_inner : (lists : List (List ℕ)) (marks : List Bool) (node to : ℕ) → Edge (map (inner_row marks) lists) node to
    → Has (row_at lists node) to × (has_mark marks to ≡ false)
edge_inner lists marks node to h = has_kept marks (row_at lists node) to
    (subst (λ (row : List ℕ). Has row to) (row_mapped (inner_row marks) lists node refl) h)

-- ---- rounds

-- the counts of the nodes of ranks below a number are right
abbrev pub AreRightBelow : List (List ℕ) → List Bool → List ℕ → List ℕ → ℕ → Type 0
AreRightBelow lists marks ranks counts rank = (ways : ℕ → List (List ℕ)) → AreWays lists marks ways → (node : ℕ)
    → get_or ranks node 0 < rank → IsRight ways counts node

pub one_round : (lists : List (List ℕ)) (marks : List Bool) (ranks counts next : List ℕ) (rank : ℕ)
    → Fall (map (inner_row marks) lists) ranks → next ≡ map (count_row marks counts) lists
    → AreRightBelow lists marks ranks counts rank → AreRightBelow lists marks ranks next (rank + 1)
one_round lists marks ranks counts next rank fall is right ways are node l =
    let row = row_at lists node in
    ap (λ (c : List ℕ). get_or c node 0) is
    ∙ (number_mapped (count_row marks counts) lists node refl
    ∙ (row_right ways marks counts row (λ to h e. let low = fall node to (inner_edge lists marks node to h e) in right ways are to
    (omega (arith, low, l)))
    ∙ ap (λ (w : List (List ℕ)). counted (length w)) (sym (are node))))

pub no_round : (lists : List (List ℕ)) (marks : List Bool) (ranks counts : List ℕ) → AreRightBelow lists marks ranks counts 0
no_round lists marks ranks counts ways are node l = absurd (omega (arith, l))

rounds : (lists : List (List ℕ)) (marks : List Bool) (ranks counts : List ℕ) → Fall (map (inner_row marks) lists) ranks
    → counts ≡ map (count_row marks counts) lists → (rank : ℕ) → AreRightBelow lists marks ranks counts rank
rounds lists marks ranks counts fall is zero = no_round lists marks ranks counts
rounds lists marks ranks counts fall is (suc rank) =
    subst (λ (n : ℕ). AreRightBelow lists marks ranks counts n) (omega arith)
    (one_round lists marks ranks counts counts rank fall is (rounds lists marks ranks counts fall is rank))

-- counts that follow from themselves
pub settled : (lists : List (List ℕ)) (marks : List Bool) (ranks counts next : List ℕ) → Fall (map (inner_row marks) lists) ranks
    → next ≡ map (count_row marks counts) lists → next ≡ counts → AreCounts lists marks counts
settled lists marks ranks counts next fall made same ways are node = rounds lists marks ranks counts fall (sym same ∙ made)
    (suc (get_or ranks node 0)) ways are node (omega arith)

-- rounds enough
pub most_grows : (most : ℕ) (numbers : List ℕ) → most ≤ most_of most numbers
most_grows most [] = omega arith
most_grows most (x ∷ numbers) = at (nat_lt most x) refl (most_grows (cond (nat_lt most x) x most) numbers)
  where
    at : (b : Bool) → nat_lt most x ≡ b → cond (nat_lt most x) x most ≤ most_of (cond (nat_lt most x) x most) numbers
        → most ≤ most_of (cond (nat_lt most x) x most) numbers
    at true e l =
        let k = ltb-true most x e in
        let here = ap (λ (b : Bool). cond b x most) e in
        omega (arith, k, here, l)
    at false e l = let here = ap (λ (b : Bool). cond b x most) e in omega (arith, here, l)

pub most_is : (most : ℕ) (numbers : List ℕ) (node : ℕ) → get_or numbers node 0 ≤ most_of most numbers
most_is most [] node = omega arith
most_is most (x ∷ numbers) zero = at (nat_lt most x) refl (most_grows (cond (nat_lt most x) x most) numbers)
  where
    at : (b : Bool) → nat_lt most x ≡ b → cond (nat_lt most x) x most ≤ most_of (cond (nat_lt most x) x most) numbers
        → x ≤ most_of (cond (nat_lt most x) x most) numbers
    at true e l = let here = ap (λ (b : Bool). cond b x most) e in omega (arith, here, l)
    at false e l =
        let k = ltb-false most x e in
        let here = ap (λ (b : Bool). cond b x most) e in
        omega (arith, k, here, l)
most_is most (x ∷ numbers) (suc node) = most_is (cond (nat_lt most x) x most) numbers node

pub enough : (lists : List (List ℕ)) (marks : List Bool) (ranks counts : List ℕ) (rank : ℕ) → most_of 0 ranks + 1 ≤ rank
    → AreRightBelow lists marks ranks counts rank → AreCounts lists marks counts
enough lists marks ranks counts rank l right ways are node = let k = most_is 0 ranks node in right ways are node (omega (arith, k, l))
