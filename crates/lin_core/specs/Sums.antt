-- Sums over a number of variables.
use Rattle.std.specs.Prelude.{ℕ, suc, ℤ, pos, ◌≡◌, ◌≤◌, ◌≤ℤ◌, ◌+ℤ◌, ◌*ℤ◌, List, [], ◌∷◌, slice_index_or, replicate, length, unsigned_abs}

-- a sum: a coefficient for each variable, in order, and a constant
pub record Sum : Type 0 where
  pub coefficients : List ℤ
  pub constant : ℤ

-- how many variables a sum is over
abbrev pub variables : Sum → ℕ
variables sum = length sum.coefficients

-- the coefficient of a variable; a variable that the sum is not over has 0
abbrev pub coefficient_in : Sum → ℕ → ℤ
coefficient_in sum variable = slice_index_or sum.coefficients variable (pos 0)

-- the value of coefficients of the variables from `variable` on, where the variables stand for these numbers
abbrev pub value_from : (ℕ → ℤ) → ℕ → List ℤ → ℤ
value_from numbers variable [] = pos 0
value_from numbers variable (coefficient ∷ rest) = coefficient *ℤ numbers variable +ℤ value_from numbers (suc variable) rest

-- the value of a sum: coefficient times number over all variables, and the constant
abbrev pub value_of_sum : (ℕ → ℤ) → Sum → ℤ
value_of_sum numbers sum = value_from numbers 0 sum.coefficients +ℤ sum.constant

-- the sum with nothing in it
abbrev pub zero_sum : ℕ → Sum
zero_sum count = record { coefficients = replicate count (pos 0); constant = pos 0 }

-- no number in the sum is above `bound` in size
pub record IsWithin (bound : ℕ) (sum : Sum) : Type 0 where
  pub coefficients : (variable : ℕ) → unsigned_abs (coefficient_in sum variable) ≤ bound
  pub constant : unsigned_abs sum.constant ≤ bound

-- every coefficient of a sum is 0, and its constant is at most `most`
pub record Leaves (sum : Sum) (most : ℤ) : Type 0 where
  pub coefficients : (variable : ℕ) → coefficient_in sum variable ≡ pos 0
  pub constant : sum.constant ≤ℤ most
