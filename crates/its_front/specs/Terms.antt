-- The terms of a row. With n variables, variable i of the text has number i before a rule and n + i after it.
use Rattle.std.specs.Prelude.{ℕ, suc, ◌+◌, ℤ, pos, Bool, true, false, List, [], ◌∷◌, length, position, slice_get, slice_set, Option}
use Rattle.std.specs.Prelude.{Some, None, if◌then◌else◌}
use Rattle.std.specs.Ordering.{int_eq}
use Rattle.std.specs.Str.{bytes_eq}
use Rattle.list_views.specs.Options.{◌>>=◌}
use Rattle.its_front.specs.declared.text_lines.numbers.Number.{Number}
use Rattle.its_front.specs.declared.words.Term.{Term}
use Rattle.its_front.specs.Words.{before, ranged, most_coefficient}

-- the number of a variable's value, before the rule or after it
abbrev pub value_number : ℕ → Bool → ℕ → ℕ
value_number count after i = if after then count + i else i

-- the number of the value that a term names, none where its name is no variable's
abbrev pub number_in : List (List ℕ) → Term → Option ℕ
number_in vars term = position (bytes_eq term.name) vars >>= λ i. Some (value_number (length vars) term.after i)

-- a term by the number of its value
abbrev pub numbered_term : List (List ℕ) → Term → Option (ℕ × Number)
numbered_term vars term = number_in vars term >>= λ n. Some (n, term.times)

-- the terms of a row by the numbers of their values, none where a name is no variable's
abbrev pub numbered : List (List ℕ) → List Term → Option (List (ℕ × Number))
numbered vars [] = Some []
numbered vars (term ∷ rest) = before (numbered_term vars term) (numbered vars rest)

-- a table of a row's terms: for each number of a value the number by which it is multiplied, if the value stands in the row
abbrev pub Table : Type 0
Table = List (Option Number)

-- a place of a table is there, and no term stands at it
abbrev pub is_free : Option (Option Number) → Bool
is_free (Some None) = true
is_free other = false

-- a table with more terms, each at its own place; none where a place is taken, and so a value stands in the row twice
abbrev pub placed : Table → List (ℕ × Number) → Option Table
placed table [] = Some table
placed table (term ∷ rest) = if is_free (slice_get table term.0) then placed (slice_set table term.0 (Some term.1)) rest else None

-- one more coefficient before others, without those that are 0
abbrev pub with_coefficient : ℕ → ℤ → Option (List (ℕ × ℤ)) → Option (List (ℕ × ℤ))
with_coefficient n c rest = if int_eq c (pos 0) then rest else before (Some (n, c)) rest

-- the coefficients of a table from a place on, without those that are 0; none where one is out of range
abbrev pub coefficients : ℕ → Table → Option (List (ℕ × ℤ))
coefficients n [] = Some []
coefficients n (None ∷ rest) = coefficients (suc n) rest
coefficients n (Some number ∷ rest) = ranged most_coefficient number >>= λ c. with_coefficient n c (coefficients (suc n) rest)
