-- The cases of quotients and remainders of abstract ints (JVM specification, section 6.5, `idiv` and `irem`).
use Rattle.std.specs.Prelude.{ℕ, ◌-◌, ℤ, pos, negsuc, neg_ℤ, ◌-ℤ◌, int_div, int_le, unsigned_abs, max, ◌&&◌, Bool, Option, Some}
use Rattle.std.specs.Prelude.{None, List, [], ◌∷◌, if◌then◌else◌}
use Rattle.std.specs.Ordering.{int_eq}
use Rattle.std.specs.List.{cons_option}
use Rattle.std.specs.Int.{int_max, int_min}
use Rattle.std.specs.Option.{option_and_then}
use Rattle.lin_core.specs.Intervals.{Bounds, interval_of}
use Rattle.abs_ints.specs.Cases.{at_least_zero, case_between, inside}
use Rattle.abs_ints.specs.IntIntervals.{all_ints, just, is_single, meet_of}
use Rattle.abs_ints.specs.declared.cases.IntCase.{IntCase}
use Rattle.abs_ints.specs.declared.cases.ShortRow.{ShortRow}
use Rattle.abs_ints.specs.declared.cases.Way.TheVariants.{Zero}

-- the divisors without 0 where it is an end, if there are others
abbrev pub divisors_of : Bounds → Option Bounds
divisors_of b = interval_of (if int_eq b.lo (pos 0) then pos 1 else b.lo) (if int_eq b.hi (pos 0) then negsuc 0 else b.hi)

-- the divisors are all above 0
abbrev pub are_positive : Bounds → Bool
are_positive d = int_le (pos 1) d.lo

-- the greatest size of a number of an interval
abbrev pub size_of : Bounds → ℕ
size_of a = max (unsigned_abs a.lo) (unsigned_abs a.hi)

-- the division by 0, which throws, where it is possible
abbrev pub zero_case : Bounds → Bounds → Option IntCase
zero_case a b = case_between Zero (Some a) (meet_of b (just (pos 0))) []

-- ---- quotients

-- the least quotient of a least dividend by divisors above 0: by the greatest divisor, or by the least one of a dividend below
-- 0
abbrev pub least_quotient : ℤ → Bounds → ℤ
least_quotient (pos n) d = int_div (pos n) d.hi
least_quotient (negsuc n) d = int_div (negsuc n) d.lo

-- the greatest quotient of a greatest dividend by divisors above 0: by the least divisor, or by the greatest one of a dividend
-- below 0
abbrev pub greatest_quotient : ℤ → Bounds → ℤ
greatest_quotient (pos n) d = int_div (pos n) d.lo
greatest_quotient (negsuc n) d = int_div (negsuc n) d.hi

-- the least int may be divided by -1: the exact quotient is no int, and is wrapped
abbrev pub may_wrap : Bounds → Bounds → Bool
may_wrap a d = int_eq a.lo all_ints.lo && int_le d.lo (negsuc 0) && int_le (negsuc 0) d.hi

-- where the quotients lie: of divisors some of which are below 0 all that is known is that a quotient is no greater in size
-- than a dividend
abbrev pub quotients_of : Bounds → Bounds → Option Bounds
quotients_of a d = if are_positive d then interval_of (least_quotient a.lo d) (greatest_quotient a.hi d) else if may_wrap a d then
    Some all_ints else meet_of all_ints (record { lo = neg_ℤ (pos (size_of a)); hi = pos (size_of a) })

-- the row of a quotient r of a dividend a by a single divisor c: c r + c - 1 - a is at least 0
abbrev pub single_divisor_rows : Bounds → List ShortRow
single_divisor_rows b = if is_single b then at_least_zero (negsuc 0) (pos 0) b.lo (b.lo -ℤ pos 1) ∷ [] else []

-- the rows of a quotient r of dividends a that are not below 0 by divisors above 0, the least of which is c: a - c r is at
-- least 0, and the row of a single divisor
abbrev pub quotient_rows : Bounds → Bounds → Bounds → List ShortRow
quotient_rows a b d = if are_positive d && int_le (pos 0) a.lo then at_least_zero (pos 1) (pos 0) (neg_ℤ d.lo) (pos 0)
    ∷ single_divisor_rows b else []

-- the cases of a quotient (JVM specification, 6.5.idiv): by the divisors that are not 0, then by 0
abbrev pub quotient_cases : Bounds → Bounds → List IntCase
quotient_cases a b = cons_option (option_and_then (λ d. inside a d (quotients_of a d) (quotient_rows a b d)) (divisors_of b))
    (cons_option (zero_case a b) [])

-- ---- remainders

-- the least remainder of a least dividend by divisors of at most size `s` + 1: 0, or of a dividend below 0 the dividend
-- itself or -s, the greater of the two
abbrev pub least_remainder : ℤ → ℕ → ℤ
least_remainder (pos n) s = pos 0
least_remainder (negsuc n) s = int_max (negsuc n) (neg_ℤ (pos s))

-- the greatest remainder of a greatest dividend by divisors of at most size `s` + 1: the dividend itself or s, the lesser of
-- the two, or 0 of a dividend below 0
abbrev pub greatest_remainder : ℤ → ℕ → ℤ
greatest_remainder (pos n) s = int_min (pos n) (pos s)
greatest_remainder (negsuc n) s = pos 0

-- where the remainders lie: they have the dividend's sign, are no greater than it in size, and less in size than some divisor
abbrev pub remainders_of : Bounds → Bounds → Option Bounds
remainders_of a d = interval_of (least_remainder a.lo (size_of d - 1)) (greatest_remainder a.hi (size_of d - 1))

-- the row of a result r that is at most the dividend a: a - r is at least 0, where no dividend is below 0
abbrev pub dividend_rows : Bounds → List ShortRow
dividend_rows a = if int_le (pos 0) a.lo then at_least_zero (pos 1) (pos 0) (negsuc 0) (pos 0) ∷ [] else []

-- the rows of a remainder r by divisors b above 0: b - 1 - r is at least 0, and the remainder is at most the dividend
abbrev pub remainder_rows : Bounds → Bounds → List ShortRow
remainder_rows a d = if are_positive d then at_least_zero (pos 0) (pos 1) (negsuc 0) (negsuc 0) ∷ dividend_rows a else []

-- the cases of a remainder (JVM specification, 6.5.irem): by the divisors that are not 0, then by 0
abbrev pub remainder_cases : Bounds → Bounds → List IntCase
remainder_cases a b = cons_option (option_and_then (λ d. inside a d (remainders_of a d) (remainder_rows a d)) (divisors_of b))
    (cons_option (zero_case a b) [])
