-- The sum of rows by multipliers, its faults, and what it shows (the certificates of Farkas' lemma: A. Schrijver, Theory
-- of Linear and Integer Programming, 1986, section 7.3). A list of multipliers names a row by its index in each entry.
use Rattle.std.specs.Prelude.{ℕ, suc, ℤ, pos, ◌≡◌, ◌^◌, ◌+ℤ◌, ◌*ℤ◌, ◌≤ℤ◌, Bool, true, false, List, [], ◌∷◌, Option, Some, None}
use Rattle.std.specs.Prelude.{if◌then◌else◌, slice_get, nat_lt, int_lt, unsigned_abs}
use Rattle.lin_core.specs.declared.faults.LinFault.{LinFault}
use Rattle.lin_core.specs.declared.faults.LinFault.TheVariants.{BadIndex, NegativeMultiplier, Limit}
use Rattle.lin_core.specs.declared.rows.RowKind.{RowKind}
use Rattle.lin_core.specs.declared.rows.RowKind.TheVariants.{AtLeastZero, IsZero}
use Rattle.lin_core.specs.declared.rows.Target.{Target}
use Rattle.lin_core.specs.Rows.{Row, coefficient_of}
use Rattle.lin_core.specs.Sums.{Sum, variables, coefficient_in}

-- a number of a row, such as its constant; 0 where there is no row
abbrev pub number_of : (Row → ℤ) → Option Row → ℤ
number_of number None = pos 0
number_of number (Some row) = number row

-- over the entries, the sum of the multiplier times that number of the entry's row
abbrev pub sum_of : (Row → ℤ) → List Row → List (ℕ × ℤ) → ℤ
sum_of number rows [] = pos 0
sum_of number rows (entry ∷ rest) = entry.1 *ℤ number_of number (slice_get rows entry.0) +ℤ sum_of number rows rest

-- the coefficient of a variable in the sum of the rows by the multipliers
abbrev pub summed_coefficient : List Row → List (ℕ × ℤ) → ℕ → ℤ
summed_coefficient rows multipliers variable = sum_of (λ row. coefficient_of variable row.terms) rows multipliers

-- the constant of the sum of the rows by the multipliers
abbrev pub summed_constant : List Row → List (ℕ × ℤ) → ℤ
summed_constant rows multipliers = sum_of (λ row. row.constant) rows multipliers

-- a sum over the variables below `end` is the sum of the rows by the multipliers: every coefficient, and the constant
pub record IsSumOf (end : ℕ) (rows : List Row) (multipliers : List (ℕ × ℤ)) (sum : Sum) : Type 0 where
  pub count : variables sum ≡ end
  pub coefficients : (variable : ℕ) → coefficient_in sum variable ≡ summed_coefficient rows multipliers variable
  pub constant : sum.constant ≡ summed_constant rows multipliers

-- whether a multiplier may stand at a row of the kind
abbrev pub may_multiply : ℤ → RowKind → Bool
may_multiply by AtLeastZero = if int_lt by (pos 0) then false else true
may_multiply by IsZero = true

-- the rules of one entry, the first that is broken: the index is that of a row; the multiplier is at most 2^31 in size;
-- it is not negative at a row that is only known to be at least 0
abbrev pub fault_at_row : ℕ → ℤ → Option Row → Option LinFault
fault_at_row n by None = Some (BadIndex n)
fault_at_row n by (Some row) =
    if nat_lt (2 ^ 31) (unsigned_abs by) then Some (Limit n) else (if may_multiply by row.kind then None else Some (NegativeMultiplier n))

-- the rule that an entry, a row's index and its multiplier, breaks first, if any
abbrev pub fault_of_entry : List Row → ℕ → ℕ × ℤ → Option LinFault
fault_of_entry rows n entry = fault_at_row n entry.1 (slice_get rows entry.0)

-- the first of two, if there is one
abbrev pub first_of_two : Option LinFault → Option LinFault → Option LinFault
first_of_two None later = later
first_of_two (Some fault) later = Some fault

-- the first fault of the entries, which are numbered from `n` on
abbrev pub first_fault_from : List Row → ℕ → List (ℕ × ℤ) → Option LinFault
first_fault_from rows n [] = None
first_fault_from rows n (entry ∷ rest) = first_of_two (fault_of_entry rows n entry) (first_fault_from rows (suc n) rest)

-- the fault of the first entry that breaks a rule
abbrev pub first_fault : List Row → List (ℕ × ℤ) → Option LinFault
first_fault rows multipliers = first_fault_from rows 0 multipliers

-- a sum shows a target: every coefficient is equal, and the target's constant is at least the sum's
pub record Shows (sum : Sum) (target : Target) : Type 0 where
  pub coefficients : (variable : ℕ) → coefficient_in sum variable ≡ coefficient_of variable target.terms
  pub constant : sum.constant ≤ℤ target.constant

-- a multiplier may stand at a row of the kind: at a row that is only known to be at least 0 it is not negative
abbrev pub IsAllowedAt : RowKind → ℤ → Type 0
IsAllowedAt AtLeastZero by = pos 0 ≤ℤ by
IsAllowedAt IsZero by = Unit {0}

-- the entry names a row that is there, and its multiplier may stand at that row
abbrev pub IsAllowed : List Row → ℕ × ℤ → Type 0
IsAllowed rows entry = (row : Row) × (slice_get rows entry.0 ≡ Some row) × IsAllowedAt row.kind entry.1

-- every entry names a row that is there, and its multiplier may stand at that row
abbrev pub AllAllowed : List Row → List (ℕ × ℤ) → Type 0
AllAllowed rows [] = Unit {0}
AllAllowed rows (entry ∷ rest) = IsAllowed rows entry × AllAllowed rows rest

-- a target is shown from the rows by the multipliers: each may stand at its row, the sum of the rows has the target's
-- coefficients, and the target's constant is at least the sum's
pub record Shown (rows : List Row) (target : Target) (multipliers : List (ℕ × ℤ)) : Type 0 where
  pub allowed : AllAllowed rows multipliers
  pub coefficients : (variable : ℕ) → summed_coefficient rows multipliers variable ≡ coefficient_of variable target.terms
  pub constant : summed_constant rows multipliers ≤ℤ target.constant
