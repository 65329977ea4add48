-- Cases of an operation on abstract ints: what its operands and its result are narrowed to, and what is known of them.
use Rattle.std.specs.Prelude.{ℤ, ◌+ℤ◌, ◌*ℤ◌, Option, Some, None, List, []}
use Rattle.std.specs.List.{All, cons_option}
use Rattle.std.specs.Option.{option_map, option_and_then}
use Rattle.lin_core.specs.Intervals.{Bounds}
use Rattle.lin_core.specs.Rows.{IsOfKind}
use Rattle.lin_core.specs.declared.rows.RowKind.TheVariants.{AtLeastZero, IsZero}
use Rattle.abs_ints.specs.declared.cases.IntCase.{IntCase}
use Rattle.abs_ints.specs.declared.cases.ShortRow.{ShortRow}
use Rattle.abs_ints.specs.declared.cases.Way.{Way}
use Rattle.abs_ints.specs.declared.cases.Way.TheVariants.{Inside}

-- the value of a row where the operands and the result are these numbers
abbrev pub value_of : ShortRow → ℤ → ℤ → ℤ → ℤ
value_of row left right result = row.left *ℤ left +ℤ row.right *ℤ right +ℤ row.result *ℤ result +ℤ row.constant

-- a row is true of these numbers
abbrev pub IsTrueOf : ℤ → ℤ → ℤ → ShortRow → Type 0
IsTrueOf left right result row = IsOfKind row.kind (value_of row left right result)

-- all rows of a list are true of these numbers
abbrev pub AllTrueOf : ℤ → ℤ → ℤ → List ShortRow → Type 0
AllTrueOf left right result rows = All (λ (row : ShortRow). IsTrueOf left right result row) rows

-- the row that says that the sum of these multiples of the operands and the result, and of a constant, is at least 0
abbrev pub at_least_zero : ℤ → ℤ → ℤ → ℤ → ShortRow
at_least_zero left right result constant = record { kind = AtLeastZero; left = left; right = right; result = result; constant = constant }

-- the row that says that the sum of these multiples of the operands and the result, and of a constant, is 0
abbrev pub is_zero : ℤ → ℤ → ℤ → ℤ → ShortRow
is_zero left right result constant = record { kind = IsZero; left = left; right = right; result = result; constant = constant }

-- a case without a result, where neither operand's interval is empty
abbrev pub case_between : Way → Option Bounds → Option Bounds → List ShortRow → Option IntCase
case_between way left right rows = option_and_then
    (λ a. option_map (λ b. record { left = a; right = b; result = None; rows = rows; way = way }) right) left

-- a case with a result, where none of the three intervals is empty
abbrev pub case_with : Way → Option Bounds → Option Bounds → Option Bounds → List ShortRow → Option IntCase
case_with way left right result rows = option_and_then
    (λ a. option_and_then (λ b. option_map (λ r. record { left = a; right = b; result = Some r; rows = rows; way = way }) result)
    right) left

-- the case of an operator that has a result and leaves its operands as they are
abbrev pub inside : Bounds → Bounds → Option Bounds → List ShortRow → Option IntCase
inside a b result rows = case_with Inside (Some a) (Some b) result rows

-- the list of one case, or of none
abbrev pub only : Option IntCase → List IntCase
only case = cons_option case []
