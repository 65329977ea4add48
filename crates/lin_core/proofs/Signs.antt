-- Products with 0, and of numbers that are not negative.
use Rattle.std.proofs.Common.{◌≡◌, ℤ, pos, negsuc, ◌*ℤ◌, ◌≤ℤ◌, arith}
use Rattle.std.proofs.lemmas.Int.{ints}
use lib.IntN.{zero-*ℤ, *ℤ-zero}

pub mul-zero_ℤ : (a : ℤ) → a *ℤ pos 0 ≡ pos 0
mul-zero_ℤ a = *ℤ-zero a

pub mul_nonneg_ℤ : (a b : ℤ) → pos 0 ≤ℤ a → pos 0 ≤ℤ b → pos 0 ≤ℤ (a *ℤ b)
mul_nonneg_ℤ (pos a) (pos b) h k = omega (arith, ints)
mul_nonneg_ℤ (pos a) (negsuc b) h k = absurd (omega (arith, ints))
mul_nonneg_ℤ (negsuc a) b h k = absurd (omega (arith, ints))
