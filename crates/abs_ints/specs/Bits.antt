-- The cases of the operators on bits of abstract ints (JVM specification, section 6.5, `iand`, `ior` and `ixor`).
use Rattle.std.specs.Prelude.{ℕ, ◌-◌, ◌^◌, ℤ, pos, negsuc, ◌-ℤ◌, int_le, ◌&&◌, Bool, Option, Some, None, List, [], ◌∷◌, if◌then◌else◌}
use Rattle.std.specs.Int.{w32, int_max, int_min, leading_zeros, cast_unsigned}
use Rattle.lin_core.specs.Intervals.{Bounds, interval_of}
use Rattle.abs_ints.specs.Cases.{at_least_zero, inside, only}
use Rattle.abs_ints.specs.IntIntervals.{all_ints, meet_of}
use Rattle.abs_ints.specs.declared.cases.IntCase.{IntCase}
use Rattle.abs_ints.specs.declared.cases.ShortRow.{ShortRow}

-- no number of an interval is below 0
abbrev pub is_natural : Bounds → Bool
is_natural a = int_le (pos 0) a.lo

-- the row of a result r that is at most the left operand a: a - r is at least 0
abbrev pub below_left : ShortRow
below_left = at_least_zero (pos 1) (pos 0) (negsuc 0) (pos 0)

-- the row of a result r that is at most the right operand b: b - r is at least 0
abbrev pub below_right : ShortRow
below_right = at_least_zero (pos 0) (pos 1) (negsuc 0) (pos 0)

-- the case of the bits that both operands have: they make a number that is at most either operand that is not below 0
abbrev pub and_case : Bounds → Bounds → Option IntCase
and_case a b =
    if is_natural a && is_natural b then inside a b (interval_of (pos 0) (int_min a.hi b.hi)) (below_left ∷ below_right ∷ [])
    else if is_natural a then inside a b (interval_of (pos 0) a.hi) (below_left ∷ [])
    else if is_natural b then inside a b (interval_of (pos 0) b.hi) (below_right ∷ [])
    else inside a b (Some all_ints) []

-- the one case of `iand` (JVM specification, 6.5.iand), if it is possible
abbrev pub and_cases : Bounds → Bounds → List IntCase
and_cases a b = only (and_case a b)

-- the number that is all ones and as long as the longer of the greatest numbers: the least 2^k - 1 that is at least both
abbrev pub ones_over : Bounds → Bounds → ℤ
ones_over a b = pos (2 ^ (32 - leading_zeros w32 (cast_unsigned w32 (int_max a.hi b.hi)))) -ℤ pos 1

-- the case of the bits that one of two operands has, neither being below 0: r - a and r - b are at least 0. Of operands below 0
-- nothing is known
abbrev pub or_case : Bounds → Bounds → Option IntCase
or_case a b =
    if is_natural a && is_natural b then inside a b (meet_of all_ints (record { lo = int_max a.lo b.lo; hi = ones_over a b }))
    (at_least_zero (negsuc 0) (pos 0) (pos 1) (pos 0) ∷ at_least_zero (pos 0) (negsuc 0) (pos 1) (pos 0) ∷ [])
    else inside a b (Some all_ints) []

-- the one case of `ior` (JVM specification, 6.5.ior), if it is possible
abbrev pub or_cases : Bounds → Bounds → List IntCase
or_cases a b = only (or_case a b)

-- the case of the bits that exactly one of two operands has, neither being below 0. Of operands below 0 nothing is known
abbrev pub xor_case : Bounds → Bounds → Option IntCase
xor_case a b =
    if is_natural a && is_natural b then inside a b (meet_of all_ints (record { lo = pos 0; hi = ones_over a b })) []
    else inside a b (Some all_ints) []

-- the one case of `ixor` (JVM specification, 6.5.ixor), if it is possible
abbrev pub xor_cases : Bounds → Bounds → List IntCase
xor_cases a b = only (xor_case a b)
