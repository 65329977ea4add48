-- Unordered pairs of numbers as rising lists, the lower number of each pair first.
use Rattle.std.specs.Prelude.{◌≡◌, ℕ, suc, ◌<◌, ◌==◌, nat_lt, min, max, Bool, true, false, ◌&&◌, ◌||◌, if◌then◌else◌, List, [], ◌∷◌}

-- the pair of two numbers, the lower one first
abbrev pub pair_of : ℕ → ℕ → ℕ × ℕ
pair_of a b = (min a b, max a b)

-- two pairs are one
abbrev pub is_same : ℕ × ℕ → ℕ × ℕ → Bool
is_same p q = (p.0 == q.0) && (p.1 == q.1)

-- a pair stands before another one: its lower number is below the other's, or they are equal and its higher number is below
abbrev pub is_before : ℕ × ℕ → ℕ × ℕ → Bool
is_before p q = if p.0 == q.0 then nat_lt p.1 q.1 else nat_lt p.0 q.0

-- a pair stands before the first of a list of pairs
abbrev pub IsFirst : ℕ × ℕ → List (ℕ × ℕ) → Type 0
IsFirst p [] = Unit {0}
IsFirst p (q ∷ rest) = is_before p q ≡ true

-- a list of pairs is in order: each has its lower number first and its higher one below 2,048, and stands before the next
abbrev pub IsRising : List (ℕ × ℕ) → Type 0
IsRising [] = Unit {0}
IsRising (p ∷ rest) = ((p.0 < p.1) × (p.1 < 2048)) × (IsFirst p rest × IsRising rest)

-- a pair is among those of a list
abbrev pub has_pair : ℕ × ℕ → List (ℕ × ℕ) → Bool
has_pair p [] = false
has_pair p (q ∷ rest) = is_same p q || has_pair p rest

-- a rising list of pairs with a pair put at its place, if it is not there yet
abbrev pub with_pair : ℕ × ℕ → List (ℕ × ℕ) → List (ℕ × ℕ)
with_pair p [] = p ∷ []
with_pair p (q ∷ rest) = if is_same p q then q ∷ rest else if is_before p q then p ∷ q ∷ rest else q ∷ with_pair p rest

-- a list of pairs without a pair
abbrev pub without_pair : ℕ × ℕ → List (ℕ × ℕ) → List (ℕ × ℕ)
without_pair p [] = []
without_pair p (q ∷ rest) = if is_same p q then rest else q ∷ without_pair p rest

-- two numbers, in any order, are a pair of a list
abbrev pub has : ℕ → ℕ → List (ℕ × ℕ) → Bool
has a b pairs = has_pair (pair_of a b) pairs

-- a rising list of pairs with the pair of two numbers, in any order, put at its place
abbrev pub added : ℕ → ℕ → List (ℕ × ℕ) → List (ℕ × ℕ)
added a b pairs = with_pair (pair_of a b) pairs

-- a list of pairs without the pair of two numbers, in any order
abbrev pub removed : ℕ → ℕ → List (ℕ × ℕ) → List (ℕ × ℕ)
removed a b pairs = without_pair (pair_of a b) pairs

-- all pairs of one list of pairs are pairs of another one
abbrev pub AreAmong : List (ℕ × ℕ) → List (ℕ × ℕ) → Type 0
AreAmong some others = (a b : ℕ) → has a b some ≡ true → has a b others ≡ true

-- the place of a pair in a rising list of pairs: how many pairs at the list's front stand before it
abbrev pub place_in : ℕ × ℕ → List (ℕ × ℕ) → ℕ
place_in p [] = 0
place_in p (q ∷ rest) = if is_before q p then suc (place_in p rest) else 0
