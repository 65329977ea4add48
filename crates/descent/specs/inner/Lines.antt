-- A line, which is a sum of scaled slots, added to a sum or taken away from it.
use Rattle.std.specs.Prelude.{ℕ, ℤ, ◌≡◌, ◌≤◌, ◌+◌, ◌+ℤ◌, ◌*ℤ◌, List, unsigned_abs}
use Rattle.lin_core.specs.Rows.{coefficient_of}
use Rattle.lin_core.specs.Sums.{Sum, variables, coefficient_in}

-- the terms and the number are added with a sign; no number grows by more than `room` in size
pub record AddsLine (room : ℕ) (terms : List (ℕ × ℤ)) (number sign : ℤ) (old new : Sum) : Type 0 where
  pub count : variables new ≡ variables old
  pub coefficients : (variable : ℕ) → coefficient_in new variable ≡ coefficient_in old variable +ℤ sign *ℤ coefficient_of variable terms
  pub constant : new.constant ≡ old.constant +ℤ sign *ℤ number
  pub growth : (variable : ℕ) → unsigned_abs (coefficient_in new variable) ≤ unsigned_abs (coefficient_in old variable) + room
  pub constant_growth : unsigned_abs new.constant ≤ unsigned_abs old.constant + room
