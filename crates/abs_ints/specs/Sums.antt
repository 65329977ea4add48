-- The cases of sums and differences of abstract ints (JVM specification, section 6.5, `iadd`, `isub`, `iinc`, `ineg`).
use Rattle.std.specs.Prelude.{ℤ, pos, negsuc, Option, List, [], ◌∷◌}
use Rattle.std.specs.List.{cons_option}
use Rattle.std.specs.Option.{option_and_then}
use Rattle.lin_core.specs.Intervals.{Bounds}
use Rattle.abs_ints.specs.Cases.{case_with, is_zero}
use Rattle.abs_ints.specs.IntIntervals.{all_ints, just, meet_of, sum_of, difference_of}
use Rattle.abs_ints.specs.declared.cases.IntCase.{IntCase}
use Rattle.abs_ints.specs.declared.cases.ShortRow.{ShortRow}
use Rattle.abs_ints.specs.declared.cases.Way.{Way}
use Rattle.abs_ints.specs.declared.cases.Way.TheVariants.{Inside, Over, Under, Zero, Taken, Next}

-- how far the exact result lies above the int that it is wrapped to: 2^32, -2^32, or nothing
abbrev pub turn_of : Way → ℤ
turn_of Over = pos 4294967296
turn_of Under = negsuc 4294967295
turn_of Inside = pos 0
turn_of Zero = pos 0
turn_of Taken = pos 0
turn_of Next = pos 0

-- the exact results that are wrapped in this way: all ints, moved by the distance of the wrap
abbrev pub reached_by : Way → Bounds
reached_by way = sum_of all_ints (just (turn_of way))

-- the interval that exact results are wrapped to in this way: they are moved back by the distance of the wrap
abbrev pub wrapped_by : Way → Bounds → Bounds
wrapped_by way exact = difference_of exact (just (turn_of way))

-- the row of a sum that is wrapped in this way: the result less both operands, and the distance of the wrap, is 0
abbrev pub sum_row : Way → ShortRow
sum_row way = is_zero (negsuc 0) (negsuc 0) (pos 1) (turn_of way)

-- the row of a difference that is wrapped in this way: the result less the left operand, and the right operand, and the
-- distance of the wrap, is 0
abbrev pub difference_row : Way → ShortRow
difference_row way = is_zero (negsuc 0) (pos 1) (pos 1) (turn_of way)

-- the case of a sum that is wrapped in this way, if there is such a sum. The operands are narrowed to what its exact results
-- allow
abbrev pub sum_case : Way → Bounds → Bounds → Option IntCase
sum_case way a b = option_and_then (λ exact.
    case_with way (meet_of a (difference_of exact b)) (meet_of b (difference_of exact a)) (meet_of all_ints (wrapped_by way exact))
    (sum_row way ∷ [])) (meet_of (reached_by way) (sum_of a b))

-- the case of a difference that is wrapped in this way, if there is such a difference. The operands are narrowed to what its
-- exact results allow
abbrev pub difference_case : Way → Bounds → Bounds → Option IntCase
difference_case way a b = option_and_then (λ exact.
    case_with way (meet_of a (sum_of exact b)) (meet_of b (difference_of a exact)) (meet_of all_ints (wrapped_by way exact))
    (difference_row way ∷ [])) (meet_of (reached_by way) (difference_of a b))

-- the cases of a sum (JVM specification, 6.5.iadd, 6.5.iinc): the exact one is an int, or above all ints, or below all ints
abbrev pub sum_cases : Bounds → Bounds → List IntCase
sum_cases a b = cons_option (sum_case Inside a b) (cons_option (sum_case Over a b) (cons_option (sum_case Under a b) []))

-- the cases of a difference (JVM specification, 6.5.isub, 6.5.ineg): the exact one is an int, or above all ints, or below all
-- ints
abbrev pub difference_cases : Bounds → Bounds → List IntCase
difference_cases a b = cons_option (difference_case Inside a b)
    (cons_option (difference_case Over a b) (cons_option (difference_case Under a b) []))
