-- Pairs that are put into a set of pairs are there.
use Rattle.std.proofs.Common.{◌≡◌, ℕ, ◌<◌, min, max, Bool, true, false, cond, List, [], ◌∷◌, ◌++◌, ◌⊎◌, inl, inr, sym, refl, ap}
use Rattle.std.proofs.Common.{◌∙◌, arith}
use Rattle.std.specs.Prelude.{filter, All}
use Rattle.std.proofs.lemmas.Bool.{false≢true, or_cases, cases_order, or_right, or_left}
use Rattle.std.proofs.lemmas.List.Elements.{All-head, All-tail}
use Rattle.abs_cells.specs.PairLists.{pair_of, is_same, is_before, has_pair, with_pair, has, added}
use Rattle.abs_cells.proofs.PairLaws.{has_swapped, is_same_from, same_is}
use Rattle.input_desc.specs.Initial.{with_pairs}
use Rattle.input_desc.specs.Fitting.{IsListed}

-- ---- one pair more

itself : (p : ℕ × ℕ) (xs : List (ℕ × ℕ)) → has_pair p (with_pair p xs) ≡ true
itself p [] = or_left (is_same p p) false (is_same_from p p refl)
itself p (q ∷ rest) = go (itself p rest) (is_same p q) refl (is_before p q)
  where
    go : has_pair p (with_pair p rest) ≡ true → (b : Bool) → is_same p q ≡ b → (c : Bool)
        → has_pair p (cond b (q ∷ rest) (cond c (p ∷ q ∷ rest) (q ∷ with_pair p rest))) ≡ true
    go in_rest true e c = or_left (is_same p q) (has_pair p rest) e
    go in_rest false e true = or_left (is_same p p) (has_pair p (q ∷ rest)) (is_same_from p p refl)
    go in_rest false e false = or_right (is_same p q) (has_pair p (with_pair p rest)) in_rest

stays : (p q : ℕ × ℕ) (xs : List (ℕ × ℕ)) → has_pair q xs ≡ true → has_pair q (with_pair p xs) ≡ true
stays p q [] h = absurd (false≢true h)
stays p q (r ∷ rest) h = go (stays p q rest) (is_same p r) (is_before p r)
  where
    more : (has_pair q rest ≡ true → has_pair q (with_pair p rest) ≡ true) → (is_same q r ≡ true) ⊎ (has_pair q rest ≡ true)
        → has_pair q (r ∷ with_pair p rest) ≡ true
    more in_rest (inl e) = or_left (is_same q r) (has_pair q (with_pair p rest)) e
    more in_rest (inr e) = or_right (is_same q r) (has_pair q (with_pair p rest)) (in_rest e)

    go : (has_pair q rest ≡ true → has_pair q (with_pair p rest) ≡ true) → (b c : Bool)
        → has_pair q (cond b (r ∷ rest) (cond c (p ∷ r ∷ rest) (r ∷ with_pair p rest))) ≡ true
    go in_rest true c = h
    go in_rest false true = or_right (is_same q p) (has_pair q (r ∷ rest)) h
    go in_rest false false = more in_rest (or_cases (is_same q r) (has_pair q rest) h)

-- ---- many

pub all_stay : (q : ℕ × ℕ) (pairs more : List (ℕ × ℕ)) → has_pair q pairs ≡ true → has_pair q (with_pairs pairs more) ≡ true
all_stay q pairs [] h = h
all_stay q pairs (pair ∷ more) h = all_stay q (added pair.0 pair.1 pairs) more (stays (pair_of pair.0 pair.1) q pairs h)

pub listed : (i j : ℕ) (pairs more : List (ℕ × ℕ)) → IsListed i j more → has i j (with_pairs pairs more) ≡ true
listed i j pairs [] h = absurd h
listed i j pairs (pair ∷ more) (inl h) =
    let first : i ≡ pair.0 = sym h.0 in
    let second : j ≡ pair.1 = sym h.1 in
    all_stay (pair_of i j) (added pair.0 pair.1 pairs) more
    (ap (λ a. has_pair (pair_of a j) (added pair.0 pair.1 pairs)) first
    ∙ ap (λ b. has_pair (pair_of pair.0 b) (added pair.0 pair.1 pairs)) second
    ∙ itself (pair_of pair.0 pair.1) pairs)
listed i j pairs (pair ∷ more) (inr (inl h)) =
    let first : j ≡ pair.0 = sym h.0 in
    let second : i ≡ pair.1 = sym h.1 in
    all_stay (pair_of i j) (added pair.0 pair.1 pairs) more
    (has_swapped j i (added pair.0 pair.1 pairs)
    ∙ ap (λ a. has_pair (pair_of a i) (added pair.0 pair.1 pairs)) first
    ∙ ap (λ b. has_pair (pair_of pair.0 b) (added pair.0 pair.1 pairs)) second
    ∙ itself (pair_of pair.0 pair.1) pairs)
listed i j pairs (pair ∷ more) (inr (inr h)) = listed i j (added pair.0 pair.1 pairs) more h

-- the ones of two lists, one after the other
pub listed_in_both : (i j : ℕ) (some more : List (ℕ × ℕ)) (pairs : List (ℕ × ℕ)) → IsListed i j (some ++ more)
    → has i j (with_pairs (with_pairs pairs some) more) ≡ true
listed_in_both i j [] more pairs h = listed i j pairs more h
listed_in_both i j (pair ∷ some) more pairs (inl h) = all_stay (pair_of i j) (with_pairs pairs (pair ∷ some)) more
    (listed i j pairs (pair ∷ some) (inl h))
listed_in_both i j (pair ∷ some) more pairs (inr (inl h)) = all_stay (pair_of i j) (with_pairs pairs (pair ∷ some)) more
    (listed i j pairs (pair ∷ some) (inr (inl h)))
listed_in_both i j (pair ∷ some) more pairs (inr (inr h)) = listed_in_both i j some more (added pair.0 pair.1 pairs) h

-- those that a test keeps, which takes the two numbers in both orders
pub listed_kept : (test : ℕ × ℕ → Bool) (i j : ℕ) (pairs : List (ℕ × ℕ)) → test (i, j) ≡ true → test (j, i) ≡ true
    → IsListed i j pairs → IsListed i j (filter test pairs)
listed_kept test i j [] t u h = h
listed_kept test i j (pair ∷ pairs) t u h = go (listed_kept test i j pairs t u) (test pair) refl h
  where
    is_pair : (a b : ℕ) → pair.0 ≡ a → pair.1 ≡ b → test (a, b) ≡ true → test pair ≡ true
    is_pair a b e f t = ap (λ x. test (x, pair.1)) e ∙ ap (λ y. test (a, y)) f ∙ t

    go : (IsListed i j pairs → IsListed i j (filter test pairs)) → (b : Bool) → test pair ≡ b → IsListed i j (pair ∷ pairs)
        → IsListed i j (cond b (pair ∷ filter test pairs) (filter test pairs))
    go rest true e (inl h) = inl h
    go rest true e (inr (inl h)) = inr (inl h)
    go rest true e (inr (inr h)) = inr (inr (rest h))
    go rest false e (inl h) = absurd (false≢true (sym e ∙ is_pair i j h.0 h.1 t))
    go rest false e (inr (inl h)) = absurd (false≢true (sym e ∙ is_pair j i h.0 h.1 u))
    go rest false e (inr (inr h)) = rest h

-- ---- what is there was listed

pair_added : (p q : ℕ × ℕ) (xs : List (ℕ × ℕ)) → has_pair q (with_pair p xs) ≡ true → (q ≡ p) ⊎ (has_pair q xs ≡ true)
pair_added p q [] h = first (or_cases (is_same q p) false h)
  where
    first : (is_same q p ≡ true) ⊎ (false ≡ true) → (q ≡ p) ⊎ (false ≡ true)
    first (inl e) = inl (same_is q p e)
    first (inr e) = inr e
pair_added p q (r ∷ rest) h = go (pair_added p q rest) (is_same p r) (is_before p r) h
  where
    ahead : (is_same q p ≡ true) ⊎ (has_pair q (r ∷ rest) ≡ true) → (q ≡ p) ⊎ (has_pair q (r ∷ rest) ≡ true)
    ahead (inl e) = inl (same_is q p e)
    ahead (inr e) = inr e

    later : (q ≡ p) ⊎ (has_pair q rest ≡ true) → (q ≡ p) ⊎ (has_pair q (r ∷ rest) ≡ true)
    later (inl e) = inl e
    later (inr e) = inr (or_right (is_same q r) (has_pair q rest) e)

    behind : (has_pair q (with_pair p rest) ≡ true → (q ≡ p) ⊎ (has_pair q rest ≡ true))
        → (is_same q r ≡ true) ⊎ (has_pair q (with_pair p rest) ≡ true) → (q ≡ p) ⊎ (has_pair q (r ∷ rest) ≡ true)
    behind in_rest (inl e) = inr (or_left (is_same q r) (has_pair q rest) e)
    behind in_rest (inr e) = later (in_rest e)

    go : (has_pair q (with_pair p rest) ≡ true → (q ≡ p) ⊎ (has_pair q rest ≡ true)) → (b c : Bool)
        → has_pair q (cond b (r ∷ rest) (cond c (p ∷ r ∷ rest) (r ∷ with_pair p rest))) ≡ true → (q ≡ p) ⊎ (has_pair q (r ∷ rest) ≡ true)
    go in_rest true c k = inr k
    go in_rest false true k = ahead (or_cases (is_same q p) (has_pair q (r ∷ rest)) k)
    go in_rest false false k = behind in_rest (or_cases (is_same q r) (has_pair q (with_pair p rest)) k)

-- a pair of two numbers has them in one order or the other
numbers : (i j a b : ℕ) → pair_of i j ≡ pair_of a b → ((a ≡ i) × (b ≡ j)) ⊎ ((a ≡ j) × (b ≡ i))
numbers i j a b e = go (ap (λ (p : ℕ × ℕ). p.0) e) (ap (λ (p : ℕ × ℕ). p.1) e) (cases_order a i)
  where
    go : min i j ≡ min a b → max i j ≡ max a b → (a ≡ i) ⊎ ((a < i) ⊎ (i < a)) → ((a ≡ i) × (b ≡ j)) ⊎ ((a ≡ j) × (b ≡ i))
    go low high (inl k) = inl (k, omega (arith, low, high, k))
    go low high (inr (inl k)) = inr (omega (arith, low, high, k), omega (arith, low, high, k))
    go low high (inr (inr k)) = inr (omega (arith, low, high, k), omega (arith, low, high, k))

was_listed : (i j : ℕ) (pairs more : List (ℕ × ℕ)) → has i j (with_pairs pairs more) ≡ true → (has i j pairs ≡ true) ⊎ IsListed i j more
was_listed i j pairs [] h = inl h
was_listed i j pairs (pair ∷ more) h = go (was_listed i j (added pair.0 pair.1 pairs) more h)
  where
    either : ((pair.0 ≡ i) × (pair.1 ≡ j)) ⊎ ((pair.0 ≡ j) × (pair.1 ≡ i)) → (has i j pairs ≡ true) ⊎ IsListed i j (pair ∷ more)
    either (inl e) = inr (inl e)
    either (inr e) = inr (inr (inl e))

    first : (pair_of i j ≡ pair_of pair.0 pair.1) ⊎ (has_pair (pair_of i j) pairs ≡ true)
        → (has i j pairs ≡ true) ⊎ IsListed i j (pair ∷ more)
    first (inl e) = either (numbers i j pair.0 pair.1 e)
    first (inr e) = inl e

    go : (has i j (added pair.0 pair.1 pairs) ≡ true) ⊎ IsListed i j more → (has i j pairs ≡ true) ⊎ IsListed i j (pair ∷ more)
    go (inl e) = first (pair_added (pair_of pair.0 pair.1) (pair_of i j) pairs e)
    go (inr l) = inr (inr (inr l))

none_before : (i j : ℕ) (more : List (ℕ × ℕ)) → (has i j [] ≡ true) ⊎ IsListed i j more → IsListed i j more
none_before i j more (inl e) = absurd (false≢true e)
none_before i j more (inr l) = l

listed_in_front : (i j : ℕ) (pairs more : List (ℕ × ℕ)) → IsListed i j pairs → IsListed i j (pairs ++ more)
listed_in_front i j [] more h = absurd h
listed_in_front i j (pair ∷ pairs) more (inl h) = inl h
listed_in_front i j (pair ∷ pairs) more (inr (inl h)) = inr (inl h)
listed_in_front i j (pair ∷ pairs) more (inr (inr h)) = inr (inr (listed_in_front i j pairs more h))

listed_behind : (i j : ℕ) (front pairs : List (ℕ × ℕ)) → IsListed i j pairs → IsListed i j (front ++ pairs)
listed_behind i j [] pairs h = h
listed_behind i j (pair ∷ front) pairs h = inr (inr (listed_behind i j front pairs h))

-- a pair of the one list and then the other was in one of them
pub was_in_both : (i j : ℕ) (some more : List (ℕ × ℕ)) → has i j (with_pairs (with_pairs [] some) more) ≡ true
    → IsListed i j (some ++ more)
was_in_both i j some more h = go (was_listed i j (with_pairs [] some) more h)
  where
    go : (has i j (with_pairs [] some) ≡ true) ⊎ IsListed i j more → IsListed i j (some ++ more)
    go (inl e) = listed_in_front i j some more (none_before i j some (was_listed i j [] some e))
    go (inr l) = listed_behind i j some more l

from_kept : (test : ℕ × ℕ → Bool) (i j : ℕ) (pairs : List (ℕ × ℕ)) → IsListed i j (filter test pairs) → IsListed i j pairs
from_kept test i j [] h = h
from_kept test i j (pair ∷ pairs) h = go (from_kept test i j pairs) (test pair) h
  where
    go : (IsListed i j (filter test pairs) → IsListed i j pairs) → (b : Bool)
        → IsListed i j (cond b (pair ∷ filter test pairs) (filter test pairs)) → IsListed i j (pair ∷ pairs)
    go rest true (inl k) = inl k
    go rest true (inr (inl k)) = inr (inl k)
    go rest true (inr (inr k)) = inr (inr (rest k))
    go rest false k = inr (inr (rest k))

-- a pair of those that a test keeps is in both lists
pub kept_in_both : (test : ℕ × ℕ → Bool) (i j : ℕ) (some more : List (ℕ × ℕ)) → has i j (with_pairs [] (filter test some)) ≡ true
    → has i j (with_pairs (with_pairs [] some) more) ≡ true
kept_in_both test i j some more h = listed_in_both i j some more []
    (listed_in_front i j some more (from_kept test i j some (none_before i j (filter test some) (was_listed i j [] (filter test some) h))))

-- what holds of each pair holds of one that is listed, in one order or the other
pub listed_test : (test : ℕ × ℕ → Bool) (i j : ℕ) (pairs : List (ℕ × ℕ)) → All (λ pair. test pair ≡ true) pairs → IsListed i j pairs
    → (test (i, j) ≡ true) ⊎ (test (j, i) ≡ true)
listed_test test i j [] all h = absurd h
listed_test test i j (pair ∷ pairs) all (inl h) = inl (sym (ap (λ (a : ℕ). test (a, pair.1)) h.0 ∙ ap (λ (b : ℕ). test (i, b)) h.1)
    ∙ All-head (λ (p : ℕ × ℕ). test p ≡ true) pair pairs all)
listed_test test i j (pair ∷ pairs) all (inr (inl h)) = inr
    (sym (ap (λ (a : ℕ). test (a, pair.1)) h.0 ∙ ap (λ (b : ℕ). test (j, b)) h.1) ∙ All-head (λ (p : ℕ × ℕ). test p ≡ true) pair pairs all)
listed_test test i j (pair ∷ pairs) all (inr (inr h)) = listed_test test i j pairs
    (All-tail (λ (p : ℕ × ℕ). test p ≡ true) pair pairs all) h
