-- Intervals of ints, and of exact sums, differences and products of ints.
use Rattle.std.specs.Prelude.{ℤ, pos, negsuc, ◌+ℤ◌, ◌-ℤ◌, ◌*ℤ◌, int_le, Bool, ◌&&◌, Option, Some, if◌then◌else◌}
use Rattle.std.specs.Ordering.{int_eq}
use Rattle.std.specs.Int.{int_max, int_min}
use Rattle.lin_core.specs.Intervals.{Bounds, interval_of}

-- all ints: the numbers of 32 bits with a sign (JVM specification, section 2.3.1)
abbrev pub all_ints : Bounds
all_ints = record { lo = negsuc 2147483647; hi = pos 2147483647 }

-- the interval of one number
abbrev pub just : ℤ → Bounds
just n = record { lo = n; hi = n }

-- an interval has one number alone
abbrev pub is_single : Bounds → Bool
is_single a = int_eq a.lo a.hi

-- the numbers that both intervals have, if there are any
abbrev pub meet_of : Bounds → Bounds → Option Bounds
meet_of a b = interval_of (int_max a.lo b.lo) (int_min a.hi b.hi)

-- the numbers of `a` that are below some number of `b`, if there are any
abbrev pub below_of : Bounds → Bounds → Option Bounds
below_of a b = interval_of a.lo (int_min a.hi (b.hi -ℤ pos 1))

-- the numbers of `a` that are at most some number of `b`, if there are any
abbrev pub up_to_of : Bounds → Bounds → Option Bounds
up_to_of a b = interval_of a.lo (int_min a.hi b.hi)

-- the numbers of `a` that are above some number of `b`, if there are any
abbrev pub above_of : Bounds → Bounds → Option Bounds
above_of a b = interval_of (int_max a.lo (b.lo +ℤ pos 1)) a.hi

-- the numbers of `a` that are at least some number of `b`, if there are any
abbrev pub from_of : Bounds → Bounds → Option Bounds
from_of a b = interval_of (int_max a.lo b.lo) a.hi

-- the exact sums of a number of `a` and a number of `b`
abbrev pub sum_of : Bounds → Bounds → Bounds
sum_of a b = record { lo = a.lo +ℤ b.lo; hi = a.hi +ℤ b.hi }

-- the exact differences of a number of `a` and a number of `b`
abbrev pub difference_of : Bounds → Bounds → Bounds
difference_of a b = record { lo = a.lo -ℤ b.hi; hi = a.hi -ℤ b.lo }

-- from the lesser to the greater multiple of the ends of an interval
abbrev pub multiples_of : ℤ → Bounds → Bounds
multiples_of n a = record { lo = int_min (n *ℤ a.lo) (n *ℤ a.hi); hi = int_max (n *ℤ a.lo) (n *ℤ a.hi) }

-- from the least to the greatest end of two intervals
abbrev pub join_of : Bounds → Bounds → Bounds
join_of a b = record { lo = int_min a.lo b.lo; hi = int_max a.hi b.hi }

-- from the least to the greatest of the four products of the ends of two intervals
abbrev pub hull_of : Bounds → Bounds → Bounds
hull_of a b = join_of (multiples_of a.lo b) (multiples_of a.hi b)

-- all numbers of an interval are ints
abbrev pub are_ints : Bounds → Bool
are_ints a = int_le all_ints.lo a.lo && int_le a.hi all_ints.hi

-- an interval of ints; all ints, where it has other numbers
abbrev pub ints_or_all : Bounds → Option Bounds
ints_or_all a = if are_ints a then meet_of all_ints a else Some all_ints
