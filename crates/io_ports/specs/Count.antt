-- Counts of calls and of faults, which stand still at the greatest number of 64 bits.
use Rattle.std.specs.Prelude.{◌⊎◌, ◌+◌, ◌-◌, ◌^◌, ◌<◌, ◌≤◌, ℕ, min}

-- a count after one more
abbrev pub counted : ℕ → ℕ
counted count = min (count + 1) (2 ^ 64 - 1)

-- A count rose in a call: it is greater after it, or is the greatest, at which it stays.
abbrev pub Rose : ℕ → ℕ → Type 0
Rose before after = (before < after) ⊎ (2 ^ 64 - 1 ≤ after)
