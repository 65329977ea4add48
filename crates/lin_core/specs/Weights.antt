-- Rows whose constants have multiples of class weights. A weighing gives each class, by its number, its weight.
use Rattle.std.specs.Prelude.{ℕ, ℤ, pos, ◌≤◌, ◌+◌, ◌^◌, ◌==◌, ◌+ℤ◌, ◌≤ℤ◌, List, [], ◌∷◌, if◌then◌else◌, map, unsigned_abs}
use Rattle.std.specs.List.{All}
use Rattle.lin_core.specs.declared.rows.WRow.{WRow}
use Rattle.lin_core.specs.Rows.{Row, value_of_terms, Rise}

-- the weight of a class in a list of weights: the first that stands beside it, and 0 where none does
abbrev pub weight_in : List (ℕ × ℤ) → ℕ → ℤ
weight_in [] class = pos 0
weight_in (weight ∷ rest) class = if weight.0 == class then weight.1 else weight_in rest class

-- every class has the weight 0
abbrev pub unweighed : ℕ → ℤ
unweighed class = pos 0

-- what a row says where classes weigh so much: the value of its multiples is a part of the constant
abbrev pub row_under : (ℕ → ℤ) → WRow → Row
row_under weigh row = record { kind = row.kind; terms = row.terms; constant = row.constant +ℤ value_of_terms weigh row.weights }

-- what some rows say where classes weigh so much
abbrev pub rows_under : (ℕ → ℤ) → List WRow → List Row
rows_under weigh rows = map (row_under weigh) rows

-- the sizes of the numbers of a list, added up
abbrev pub total_size : List (ℕ × ℤ) → ℕ
total_size [] = 0
total_size (multiple ∷ rest) = unsigned_abs multiple.1 + total_size rest

-- a weight is from 0 to 65,535
abbrev pub IsWeight : ℕ × ℤ → Type 0
IsWeight weight = (pos 0 ≤ℤ weight.1) × (weight.1 ≤ℤ pos 65535)

-- every weight of a list is from 0 to 65,535
abbrev pub AreWeights : List (ℕ × ℤ) → Type 0
AreWeights weights = All IsWeight weights

-- a row over the variables below `end`: its variables rise, its constant is at most 2^40 in size, and so are its
-- multiples of weights together
pub record IsRow (end : ℕ) (row : WRow) : Type 0 where
  pub rise : Rise end row.terms
  pub constant : unsigned_abs row.constant ≤ 2 ^ 40
  pub weights : total_size row.weights ≤ 2 ^ 40

-- every row of a list keeps the limits of a row over the variables below `end`
abbrev pub AreRows : ℕ → List WRow → Type 0
AreRows end rows = All (λ (row : WRow). IsRow end row) rows
