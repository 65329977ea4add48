-- Intervals of whole numbers, by their ends.
use Rattle.std.specs.Prelude.{ℤ, ◌≤ℤ◌, Option, Some, None, if◌then◌else◌, int_le}

-- the least and the greatest number of an interval
pub record Bounds : Type 0 where
  pub lo : ℤ
  pub hi : ℤ

-- a number lies in an interval
abbrev pub IsIn : ℤ → Bounds → Type 0
IsIn n interval = (interval.lo ≤ℤ n) × (n ≤ℤ interval.hi)

-- the interval with these ends, if the first is not above the second
abbrev pub interval_of : ℤ → ℤ → Option Bounds
interval_of lo hi = if int_le lo hi then Some (record { lo = lo; hi = hi }) else None
