-- Laws of ints: where remainders, shifts and low bits lie.
use Rattle.std.proofs.Common.{pos, negsuc, arith, suc, ℤ, ◌≤◌, ◌≤ℤ◌, ℕ, ◌-◌, ◌^◌}
use Rattle.std.proofs.Math.Nat.{mod-le, div-le_self}
use Rattle.std.proofs.lemmas.Int.{clamps, ints}
use Rattle.std.specs.Int.{int_max, int_min, int_shr, int_rem_euclid}
use Rattle.std.specs.Prelude.{int_rem, unsigned_abs}

pub remainder_near : (m n : ℤ) → (int_min m (pos 0) ≤ℤ int_rem m n) × (int_rem m n ≤ℤ int_max m (pos 0))
remainder_near (pos x) n = let h = mod-le x (unsigned_abs n) in (omega (arith, ints, clamps), omega (arith, ints, clamps))
remainder_near (negsuc x) n = let h = mod-le (suc x) (unsigned_abs n) in (omega (arith, ints, clamps), omega (arith, ints, clamps))

pub shift_near : (m : ℤ) (k : ℕ) → (int_min m (pos 0) ≤ℤ int_shr m k) × (int_shr m k ≤ℤ int_max m (negsuc 0))
shift_near (pos x) k = let h = div-le_self x (2 ^ k) in (omega (arith, ints, clamps), omega (arith, ints, clamps))
shift_near (negsuc x) k = let h = div-le_self x (2 ^ k) in (omega (arith, ints, clamps), omega (arith, ints, clamps))

pub bit_in : (m : ℤ) → (pos 0 ≤ℤ int_rem_euclid m (pos 2)) × (int_rem_euclid m (pos 2) ≤ℤ pos 1)
bit_in (pos n) = (omega (arith, ints), omega (arith, ints))
bit_in (negsuc n) = (omega (arith, ints), omega (arith, ints))

pub char_in : (m : ℤ) → (pos 0 ≤ℤ int_rem_euclid m (pos 65536)) × (int_rem_euclid m (pos 65536) ≤ℤ pos 65535)
char_in (pos n) = (omega (arith, ints), omega (arith, ints))
char_in (negsuc n) = (omega (arith, ints), omega (arith, ints))
