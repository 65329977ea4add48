-- The rows of rules.
use Rattle.std.specs.Prelude.{ℕ, ◌+◌, ℤ, List, [], length, replicate, None, Ok}
use Rattle.list_views.specs.Results.{◌>>=◌, wanted}
use Rattle.lin_core.specs.declared.rows.RowKind.{RowKind}
use Rattle.lin_core.specs.declared.rows.WRow.{WRow}
use Rattle.its_front.specs.declared.text_lines.numbers.Number.{Number}
use Rattle.its_front.specs.declared.fault.ItsFault.TheVariants.{UnknownVariable, DuplicateVariable, OutOfRange}
use Rattle.its_front.specs.declared.words.Term.{Term}
use Rattle.its_front.specs.Faults.{Said}
use Rattle.its_front.specs.Words.{ranged, most_constant}
use Rattle.its_front.specs.Terms.{Table, numbered, placed, coefficients}

-- a row of a rule: that a constant and these multiples of variables together are at least 0, or are 0
abbrev pub make_row : RowKind → ℤ → List (ℕ × ℤ) → WRow
make_row kind constant terms = record { kind = kind; terms = terms; constant = constant; weights = [] }

-- the table of a row's terms, over the values of so many variables before the rule and after it
abbrev pub table_of : ℕ → ℕ → List (ℕ × Number) → Said Table
table_of line count terms = wanted (DuplicateVariable line) (placed (replicate (count + count) None) terms)

-- the row of a constant and of the terms of a table, none of which is out of its range
unfoldable pub row_in : ℕ → RowKind → Number → Table → Said WRow
row_in line kind number table = do
  constant ← wanted (OutOfRange line) (ranged most_constant number)
  terms ← wanted (OutOfRange line) (coefficients 0 table)
  Ok (make_row kind constant terms)

-- the row that a constant and terms say over these variables, or its first fault
unfoldable pub row_of : List (List ℕ) → ℕ → RowKind → Number × List Term → Said WRow
row_of vars line kind words = do
  terms ← wanted (UnknownVariable line) (numbered vars words.1)
  table ← table_of line (length vars) terms
  row_in line kind words.0 table
