-- The limits of rules are below what a search may be asked for.
use Rattle.std.specs.Prelude.{◌≤◌, ℕ}
use native.Mathlib.Omega.{arith}

pub few_enough : (count : ℕ) → count ≤ 4096 → count ≤ 536870912
few_enough count few = omega (arith, few)
