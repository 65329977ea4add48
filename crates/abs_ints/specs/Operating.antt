-- The cases of each operator on abstract ints.
use Rattle.std.specs.Prelude.{ℤ, Bool, ◌&&◌, Option, Some, None, List, [], ◌∷◌, if◌then◌else◌}
use Rattle.lin_core.specs.Intervals.{Bounds}
use Rattle.jvm_values.specs.Ints.{int_result}
use Rattle.jvm_values.specs.declared.ints.IntOp.{IntOp}
use Rattle.jvm_values.specs.declared.ints.IntOp.TheVariants.{Add, Sub, Mul, Div, Rem, Shl, Shr, Ushr, And, Or, Xor, Narrow}
use Rattle.abs_ints.specs.Bits.{and_cases, or_cases, xor_cases}
use Rattle.abs_ints.specs.Cases.{inside, only}
use Rattle.abs_ints.specs.Divisions.{quotient_cases, remainder_cases, zero_case}
use Rattle.abs_ints.specs.Narrowings.{narrow_cases}
use Rattle.abs_ints.specs.IntIntervals.{just, is_single}
use Rattle.abs_ints.specs.Products.{product_cases}
use Rattle.abs_ints.specs.Shifts.{shift_left_cases, shift_right_cases, shift_zeros_cases}
use Rattle.abs_ints.specs.Sums.{sum_cases, difference_cases}
use Rattle.abs_ints.specs.declared.cases.IntCase.{IntCase}

-- the case of two single numbers: the machine's own result, or the division by 0
abbrev pub single_case : Bounds → Bounds → Option ℤ → Option IntCase
single_case a b None = zero_case a b
single_case a b (Some n) = inside a b (Some (just n)) []

-- the cases of two single numbers are computed, else they are the operator's own
abbrev pub single_or : IntOp → Bounds → Bounds → List IntCase → List IntCase
single_or op a b cases = if is_single a && is_single b then only (single_case a b (int_result op a.lo b.lo)) else cases

-- the table of cases: those of each operator on an int of `a` and one of `b` (JVM specification, section 6.5)
abbrev pub operated : IntOp → Bounds → Bounds → List IntCase
operated Add a b = sum_cases a b
operated Sub a b = difference_cases a b
operated Mul a b = single_or Mul a b (product_cases a b)
operated Div a b = single_or Div a b (quotient_cases a b)
operated Rem a b = single_or Rem a b (remainder_cases a b)
operated Shl a b = single_or Shl a b (shift_left_cases a b)
operated Shr a b = single_or Shr a b (shift_right_cases a b)
operated Ushr a b = single_or Ushr a b (shift_zeros_cases a b)
operated And a b = single_or And a b (and_cases a b)
operated Or a b = single_or Or a b (or_cases a b)
operated Xor a b = single_or Xor a b (xor_cases a b)
operated (Narrow kind) a b = narrow_cases kind a b
