-- Congruence of whole numbers.
use Rattle.std.specs.Prelude.{ℤ, pos, ◌≡◌, ◌^◌, ◌+ℤ◌, ◌*ℤ◌}

-- two numbers that differ by a multiple of 2^32
abbrev pub IsCongruent : ℤ → ℤ → Type 0
IsCongruent a b = (k : ℤ) × (a ≡ b +ℤ k *ℤ pos (2 ^ 32))
