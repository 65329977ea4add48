-- The case of a product of abstract ints (JVM specification, section 6.5, `imul`).
use Rattle.std.specs.Prelude.{ℕ, ℤ, pos, negsuc, neg_ℤ, Option, List, [], ◌∷◌, if◌then◌else◌}
use Rattle.lin_core.specs.Intervals.{Bounds}
use Rattle.abs_ints.specs.Cases.{is_zero, inside, only}
use Rattle.abs_ints.specs.IntIntervals.{is_single, hull_of, are_ints, ints_or_all}
use Rattle.abs_ints.specs.declared.cases.IntCase.{IntCase}
use Rattle.abs_ints.specs.declared.cases.ShortRow.{ShortRow}

-- the row that says that the result is n times the left operand
abbrev pub times_left : ℤ → ShortRow
times_left n = is_zero (neg_ℤ n) (pos 0) (pos 1) (pos 0)

-- the row that says that the result is n times the right operand
abbrev pub times_right : ℤ → ShortRow
times_right n = is_zero (pos 0) (neg_ℤ n) (pos 1) (pos 0)

-- the row of a product one of whose operands is a single number: the result is that many times the other one
abbrev pub factor_rows : Bounds → Bounds → List ShortRow
factor_rows a b = if is_single b then times_left b.lo ∷ [] else if is_single a then times_right a.lo ∷ [] else []

-- the rows of a product: those of a single number, where no product is wrapped
abbrev pub product_rows : Bounds → Bounds → List ShortRow
product_rows a b = if are_ints (hull_of a b) then factor_rows a b else []

-- the one case of `imul` (JVM specification, 6.5.imul): from the least to the greatest product of the ends, if all of these are
-- ints; else nothing is known of the result
abbrev pub product_cases : Bounds → Bounds → List IntCase
product_cases a b = only (inside a b (ints_or_all (hull_of a b)) (product_rows a b))
