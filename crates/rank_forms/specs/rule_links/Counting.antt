-- Counting: how often rows count. An entry is a row, by its number, so many times.
use Rattle.std.specs.Prelude.{ℕ, suc, ℤ, pos, ◌+ℤ◌, List, [], ◌∷◌, ◌++◌, if◌then◌else◌, slice_set, get_or, replicate}
use Rattle.std.specs.Ordering.{int_eq}

-- a row counts so many times more than before
abbrev pub added : ℕ → ℤ → List ℤ → List ℤ
added row times counts = slice_set counts row (get_or counts row (pos 0) +ℤ times)

-- the entries of a list are counted one after another, each row as often more as its entry says
abbrev pub counted : List (ℕ × ℤ) → List ℤ → List ℤ
counted [] counts = counts
counted (entry ∷ rest) counts = counted rest (added entry.0 entry.1 counts)

-- a row that counts, with its number; none where it counts 0 times
abbrev pub kept_at : ℕ → ℤ → List (ℕ × ℤ)
kept_at n times = if int_eq times (pos 0) then [] else (n, times) ∷ []

-- the rows that count, with their numbers, which go on from n
abbrev pub kept : ℕ → List ℤ → List (ℕ × ℤ)
kept n [] = []
kept n (times ∷ rest) = kept_at n times ++ kept (suc n) rest

-- the multipliers of so many rows by a list of entries: each row that counts, once, with the sum of what its entries say
abbrev pub multipliers_of : ℕ → List (ℕ × ℤ) → List (ℕ × ℤ)
multipliers_of rows entries = kept 0 (counted entries (replicate rows (pos 0)))
