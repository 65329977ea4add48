-- Lists of numbers and of marks.
use Rattle.std.specs.Prelude.{◌≡◌, ◌⊎◌, ℕ, zero, suc, Bool, if◌then◌else◌, List, [], ◌∷◌, sum_by}

-- a number stands in a list
abbrev pub Has : List ℕ → ℕ → Type 0
Has [] n = ⊥
Has (m ∷ ms) n = (m ≡ n) ⊎ Has ms n

-- the numbers that follow one another from the first number on, as many as the second number says
abbrev pub numbers_from : ℕ → ℕ → List ℕ
numbers_from low zero = []
numbers_from low (suc count) = low ∷ numbers_from (suc low) count

-- how many places of a list of marks are not marked yet
abbrev pub open_count : List Bool → ℕ
open_count marks = sum_by (λ mark. if mark then 0 else 1) marks
