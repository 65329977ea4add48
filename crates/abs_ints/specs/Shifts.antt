-- The cases of shifts of abstract ints (JVM specification, section 6.5, `ishl`, `ishr` and `iushr`).
use Rattle.std.specs.Prelude.{ℕ, ◌-◌, ◌^◌, ◌==◌, ℤ, pos, negsuc, neg_ℤ, ◌-ℤ◌, int_le, Option, Some, None, List, [], ◌∷◌, if◌then◌else◌}
use Rattle.std.specs.Int.{int_max, int_min, int_shr}
use Rattle.lin_core.specs.Intervals.{Bounds, interval_of}
use Rattle.jvm_values.specs.Ints.{shift_count}
use Rattle.abs_ints.specs.Cases.{at_least_zero, is_zero, inside, only}
use Rattle.abs_ints.specs.IntIntervals.{all_ints, is_single, multiples_of, are_ints, ints_or_all}
use Rattle.abs_ints.specs.Products.{times_left}
use Rattle.abs_ints.specs.Divisions.{dividend_rows}
use Rattle.abs_ints.specs.declared.cases.IntCase.{IntCase}
use Rattle.abs_ints.specs.declared.cases.ShortRow.{ShortRow}

-- 2 to the power of how far a single number shifts
abbrev pub power_of : Bounds → ℤ
power_of b = pos (2 ^ shift_count b.lo)

-- ---- to the left: a product with that power

-- the row of a shift to the left by a single count: the result is the left operand times the power, where no product is wrapped
abbrev pub shifted_left_rows : Bounds → Bounds → List ShortRow
shifted_left_rows a b = if are_ints (multiples_of (power_of b) a) then times_left (power_of b) ∷ [] else []

-- the one case of `ishl` (JVM specification, 6.5.ishl): the products with the power of a single count, if all of these are
-- ints; else nothing is known of the result
abbrev pub shift_left_cases : Bounds → Bounds → List IntCase
shift_left_cases a b = only (if is_single b then inside a b (ints_or_all (multiples_of (power_of b) a)) (shifted_left_rows a b) else
    inside a b (Some all_ints) [])

-- ---- to the right: a quotient by that power, rounded down

-- where a shift to the right by one count leads: from the least to the greatest of the quotients, rounded down
abbrev pub shifted_right_by : Bounds → ℕ → Option Bounds
shifted_right_by a count = interval_of (int_shr a.lo count) (int_shr a.hi count)

-- the rows of a quotient r of a by the power p, rounded down: a - p r and p r + p - 1 - a are at least 0
abbrev pub shifted_right_rows : ℤ → List ShortRow
shifted_right_rows p = at_least_zero (pos 1) (pos 0) (neg_ℤ p) (pos 0) ∷ at_least_zero (negsuc 0) (pos 0) p (p -ℤ pos 1) ∷ []

-- where a shift to the right by any count leads: nearer to 0, or to -1 from below 0
abbrev pub shifted_right : Bounds → Option Bounds
shifted_right a = interval_of (int_min a.lo (pos 0)) (int_max a.hi (negsuc 0))

-- the case of a shift to the right that keeps the sign: by a single count, or by any one
abbrev pub shift_right_case : Bounds → Bounds → Option IntCase
shift_right_case a b = if is_single b then inside a b (shifted_right_by a (shift_count b.lo)) (shifted_right_rows (power_of b)) else
    inside a b (shifted_right a) (dividend_rows a)

-- the one case of `ishr` (JVM specification, 6.5.ishr), if it is possible
abbrev pub shift_right_cases : Bounds → Bounds → List IntCase
shift_right_cases a b = only (shift_right_case a b)

-- ---- to the right, with zeros from the left: of numbers that are not below 0 a quotient as well

-- the case of a shift to the right with zeros by a single count, of numbers some of which are below 0: by 0 they stay, and by
-- another count the result has that many bits less than 32
abbrev pub zeros_case : Bounds → Bounds → ℕ → Option IntCase
zeros_case a b count = if count == 0 then inside a b (Some a) (is_zero (negsuc 0) (pos 0) (pos 1) (pos 0) ∷ []) else inside a b
    (interval_of (pos 0) (pos (2 ^ (32 - count)) -ℤ pos 1)) []

-- the case of a shift to the right with zeros: of numbers that are not below 0 it is that of `ishr`; else it is that of a
-- single count, or nothing is known
abbrev pub shift_zeros_case : Bounds → Bounds → Option IntCase
shift_zeros_case a b = if int_le (pos 0) a.lo then shift_right_case a b else if is_single b then zeros_case a b (shift_count b.lo)
    else inside a b (Some all_ints) []

-- the one case of `iushr` (JVM specification, 6.5.iushr), if it is possible
abbrev pub shift_zeros_cases : Bounds → Bounds → List IntCase
shift_zeros_cases a b = only (shift_zeros_case a b)
