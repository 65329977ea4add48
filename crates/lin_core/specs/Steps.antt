-- One step of a sum.
use Rattle.std.specs.Prelude.{ℕ, ℤ, ◌≡◌, ◌+◌, ◌^◌, ◌≤◌, ◌+ℤ◌, ◌*ℤ◌, List, unsigned_abs}
use Rattle.lin_core.specs.Rows.{coefficient_of}
use Rattle.lin_core.specs.Sums.{Sum, variables, coefficient_in}

-- the terms and a number, times a multiplier, are added; no number grows by more than 2^94 in size
pub record AddsMultiple (terms : List (ℕ × ℤ)) (number by : ℤ) (old new : Sum) : Type 0 where
  pub count : variables new ≡ variables old
  pub coefficients : (variable : ℕ) → coefficient_in new variable ≡ coefficient_in old variable +ℤ by *ℤ coefficient_of variable terms
  pub constant : new.constant ≡ old.constant +ℤ by *ℤ number
  pub growth : (variable : ℕ) → unsigned_abs (coefficient_in new variable) ≤ unsigned_abs (coefficient_in old variable) + 2 ^ 94
  pub constant_growth : unsigned_abs new.constant ≤ unsigned_abs old.constant + 2 ^ 94
