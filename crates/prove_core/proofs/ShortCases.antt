-- The rows of the cases of ints: an equation has two terms, or coefficients of 1 and -1.
use Rattle.std.proofs.Common.{◌≡◌, ◌⊎◌, inl, inr, ◌+◌, ◌≤◌, Bool, List, ℤ, pos, negsuc, refl, arith}
use Rattle.std.specs.Prelude.{neg_ℤ, ◌-ℤ◌, unsigned_abs}
use Rattle.std.specs.List.{AllByRecursion}
use Rattle.std.specs.Option.{IfSome}
use Rattle.lin_core.specs.Intervals.{Bounds}
use Rattle.lin_core.specs.declared.rows.RowKind.TheVariants.{IsZero}
use Rattle.jvm_values.specs.declared.ints.IntOp.{IntOp}
use Rattle.jvm_values.specs.declared.ints.Cond.{Cond}
use Rattle.abs_ints.specs.Cases.{at_least_zero, is_zero}
use Rattle.abs_ints.specs.Comparing.{row_of, related, compared}
use Rattle.abs_ints.specs.Operating.{operated}
use Rattle.abs_ints.specs.Products.{times_left, times_right}
use Rattle.abs_ints.specs.Shifts.{power_of}
use Rattle.abs_ints.specs.Sums.{sum_row, difference_row}
use Rattle.abs_ints.specs.declared.cases.IntCase.{IntCase}
use Rattle.abs_ints.specs.declared.cases.ShortRow.{ShortRow}
use Rattle.abs_ints.specs.declared.cases.Way.{Way}
use Rattle.abs_ints.specs.declared.relations.Relation.{Relation}
use Rattle.abs_ints.specs.declared.relations.Relation.TheVariants.{Equal, Below, AtMost, Above, AtLeast}
use Rattle.graph_check.proofs.steady_plans.EachRow.{HasEach, HaveEach, HoldsOfRows, fine_each, each_row, each_related, each_compared}

-- an equation lacks an operand, or its coefficients are together at most 4,096 in size
abbrev pub IsLow : ShortRow → Type 0
IsLow row = row.kind ≡ IsZero → (row.left ≡ pos 0)
    ⊎ ((row.right ≡ pos 0) ⊎ (unsigned_abs row.left + (unsigned_abs row.right + unsigned_abs row.result) ≤ 4096))

abbrev pub AreLow : List ShortRow → Type 0
AreLow rows = AllByRecursion IsLow rows

abbrev pub HasLow : IntCase → Type 0
HasLow = HasEach IsLow

-- ---- rows

inequality : (left right result constant : ℤ) → IsLow (at_least_zero left right result constant)
inequality left right result constant e = absurd (cc)

sum_low : (way : Way) → IsLow (sum_row way)
sum_low way e = inr (inr (omega arith))

difference_low : (way : Way) → IsLow (difference_row way)
difference_low way e = inr (inr (omega arith))

left_low : (n : ℤ) → IsLow (times_left n)
left_low n e = inr (inl refl)

right_low : (n : ℤ) → IsLow (times_right n)
right_low n e = inl refl

same_low : IsLow (is_zero (negsuc 0) (pos 0) (pos 1) (pos 0))
same_low e = inr (inl refl)

relation_low : (relation : Relation) → IsLow (row_of relation)
relation_low Equal e = inr (inr (omega arith))
relation_low Below e = absurd (cc)
relation_low AtMost e = absurd (cc)
relation_low Above e = absurd (cc)
relation_low AtLeast e = absurd (cc)

-- ---- operators

rows_low : (a b : Bounds) → HoldsOfRows IsLow a b
rows_low a b = record {
  sums = sum_low;
  differences = difference_low;
  left_times = left_low b.lo;
  right_times = right_low a.lo;
  quotient = λ d e. inequality (pos 1) (pos 0) (neg_ℤ d.lo) (pos 0);
  divisor = inequality (negsuc 0) (pos 0) b.lo (b.lo -ℤ pos 1);
  remainder = inequality (pos 0) (pos 1) (negsuc 0) (negsuc 0);
  power_times = left_low (power_of b);
  power_quotient = inequality (pos 1) (pos 0) (neg_ℤ (power_of b)) (pos 0);
  power_rest = inequality (negsuc 0) (pos 0) (power_of b) (power_of b -ℤ pos 1);
  same = same_low;
  under_left = inequality (pos 1) (pos 0) (negsuc 0) (pos 0);
  under_right = inequality (pos 0) (pos 1) (negsuc 0) (pos 0);
  over_left = inequality (negsuc 0) (pos 0) (pos 1) (pos 0);
  over_right = inequality (pos 0) (negsuc 0) (pos 1) (pos 0);
}

pub operated_low : (op : IntOp) (a b : Bounds) → HaveEach IsLow (operated op a b)
operated_low op a b = fine_each IsLow (operated op a b) (each_row IsLow a b (rows_low a b) op)

-- ---- comparisons

pub related_low : (relation : Relation) (way : Way) (a b : Bounds) → IfSome (related relation way a b) HasLow
related_low = each_related IsLow relation_low

pub compared_low : (condition : Cond) (same : Bool) (a b : Bounds) → HaveEach IsLow (compared condition same a b)
compared_low = each_compared IsLow relation_low
