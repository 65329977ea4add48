-- The rows of an operator's cases have small numbers, and name a result only where there is one.
use Rattle.std.proofs.Common.{◌≡◌, ℕ, ◌<◌, ◌≤◌, ◌^◌, ◌%◌, ℤ, pos, negsuc, ◌-ℤ◌, ◌≤ℤ◌, neg_ℤ, Bool, true, false, cond, Some, None}
use Rattle.std.proofs.Common.{refl, sym, ap, subst, lit<, arith}
use Rattle.std.specs.Prelude.{int_le}
use Rattle.std.specs.Int.{w32, cast_unsigned}
use Rattle.std.specs.Option.{IfSome}
use Rattle.std.specs.Ordering.{int_eq}
use Rattle.std.proofs.Math.Nat.{mod-lt, pow-le-pow_right}
use Rattle.std.proofs.lemmas.Int.{ints}
use Rattle.std.proofs.lemmas.Option.{none-some}
use Rattle.lin_core.specs.Intervals.{Bounds, interval_of}
use Rattle.jvm_values.specs.declared.ints.IntOp.{IntOp}
use Rattle.jvm_values.specs.declared.ints.Cond.{Cond}
use Rattle.jvm_values.specs.declared.types.Kind.TheVariants as kinds
use Rattle.jvm_values.specs.Kinds.{IsOfKind}
use Rattle.jvm_values.specs.Ints.{shift_count}
use Rattle.jvm_values.proofs.Options.{some_is}
use Rattle.abs_ints.specs.Comparing.{row_of, related, compared}
use Rattle.abs_ints.specs.Divisions.{divisors_of}
use Rattle.abs_ints.specs.Operating.{operated}
use Rattle.abs_ints.specs.Products.{times_left, times_right}
use Rattle.abs_ints.specs.Shifts.{power_of}
use Rattle.abs_ints.specs.Sums.{turn_of, sum_row, difference_row}
use Rattle.abs_ints.specs.declared.cases.IntCase.{IntCase}
use Rattle.abs_ints.specs.declared.cases.ShortRow.{ShortRow}
use Rattle.abs_ints.specs.declared.cases.Way.{Way}
use Rattle.abs_ints.specs.declared.cases.Way.TheVariants.{Inside, Over, Under, Zero, Taken, Next}
use Rattle.abs_ints.specs.declared.relations.Relation.{Relation}
use Rattle.abs_ints.specs.declared.relations.Relation.TheVariants.{Equal, Below, AtMost, Above, AtLeast}
use Rattle.abs_ints.proofs.OperatorCases.{if_either}
use Rattle.steady_plans.proofs.EachRow.{AreFine, HasEach, HaveEach, HoldsOfRows, each_row, each_related, each_compared}

-- ---- numbers

-- at most 2^32 in size
abbrev pub IsSmall : ℤ → Type 0
IsSmall n = (negsuc 4294967295 ≤ℤ n) × (n ≤ℤ pos 4294967296)

-- an int of 32 bits
abbrev pub IsInt : ℤ → Type 0
IsInt n = IsOfKind kinds.Int n

abbrev pub HasIntEnds : Bounds → Type 0
HasIntEnds a = IsInt a.lo × IsInt a.hi

int_small : (n : ℤ) → IsInt n → IsSmall n
int_small n h = (omega (arith, ints, h.0, h.1), omega (arith, ints, h.0, h.1))

neg_small : (n : ℤ) → IsInt n → IsSmall (neg_ℤ n)
neg_small n h = (omega (arith, ints, h.0, h.1), omega (arith, ints, h.0, h.1))

none_small : IsSmall (pos 0)
none_small = (omega (arith, ints), omega (arith, ints))

one_small : IsSmall (pos 1)
one_small = (omega (arith, ints), omega (arith, ints))

less_small : IsSmall (negsuc 0)
less_small = (omega (arith, ints), omega (arith, ints))

-- ---- rows

pub record IsSmallRow (row : ShortRow) : Type 0 where
  pub left : IsSmall row.left
  pub right : IsSmall row.right
  pub result : IsSmall row.result
  pub constant : IsSmall row.constant

-- ---- the numbers of rows

pub turn_small : (way : Way) → IsSmall (turn_of way)
turn_small Inside = none_small
turn_small Over = (omega (arith, ints), omega (arith, ints))
turn_small Under = (omega (arith, ints), omega (arith, ints))
turn_small Zero = none_small
turn_small Taken = none_small
turn_small Next = none_small

pub sum_small : (way : Way) → IsSmallRow (sum_row way)
sum_small way = record { left = less_small; right = less_small; result = one_small; constant = turn_small way }

pub difference_small : (way : Way) → IsSmallRow (difference_row way)
difference_small way = record { left = less_small; right = one_small; result = one_small; constant = turn_small way }

left_small : (n : ℤ) → IsSmall (neg_ℤ n) → IsSmallRow (times_left n)
left_small n h = record { left = h; right = none_small; result = one_small; constant = none_small }

right_small : (n : ℤ) → IsSmall (neg_ℤ n) → IsSmallRow (times_right n)
right_small n h = record { left = none_small; right = h; result = one_small; constant = none_small }

-- 2 to the power of a shift count
power_below : (k : ℕ) → 2 ^ (k % 32) ≤ 2147483648
power_below k =
    let l : k % 32 < 32 = mod-lt k (lit< tt) in
    let m : k % 32 ≤ 31 = omega (arith, l) in
    pow-le-pow_right (lit< tt) m

power_low : (b : Bounds) → 2 ^ shift_count b.lo ≤ 2147483648
power_low b = power_below (cast_unsigned w32 b.lo)

power_small : (b : Bounds) → IsSmall (power_of b)
power_small b = let l = power_low b in (omega (arith, ints), omega (arith, ints, l))

power_neg_small : (b : Bounds) → IsSmall (neg_ℤ (power_of b))
power_neg_small b = let l = power_low b in (omega (arith, ints, l), omega (arith, ints))

power_less_small : (b : Bounds) → IsSmall (power_of b -ℤ pos 1)
power_less_small b = let l = power_low b in (omega (arith, ints), omega (arith, ints, l))

-- the least divisor
divisor_is : (lo hi : ℤ) (d : Bounds) → interval_of lo hi ≡ Some d → d.lo ≡ lo
divisor_is lo hi d e = go (int_le lo hi) e
  where
    go : (t : Bool) → cond t (Some (let b : Bounds = record { lo = lo; hi = hi } in b)) None ≡ Some d → d.lo ≡ lo
    go true f = ap (λ (x : Bounds). x.lo) (sym (some_is f))
    go false f = absurd (none-some d f)

one_or_int : (n : ℤ) → IsInt n → IsInt (cond (int_eq n (pos 0)) (pos 1) n)
one_or_int n h = if_either IsInt (int_eq n (pos 0)) (pos 1) n (λ t. (omega (arith, ints), omega (arith, ints))) (λ f. h)

least_divisor : (b d : Bounds) → IsInt b.lo → divisors_of b ≡ Some d → IsInt d.lo
least_divisor b d h e = subst IsInt
    (sym (divisor_is (cond (int_eq b.lo (pos 0)) (pos 1) b.lo) (cond (int_eq b.hi (pos 0)) (negsuc 0) b.hi) d e)) (one_or_int b.lo h)

less_one_small : (n : ℤ) → IsInt n → IsSmall (n -ℤ pos 1)
less_one_small n h = (omega (arith, ints, h.0, h.1), omega (arith, ints, h.0, h.1))

-- ---- all operators

rows_small : (a b : Bounds) → HasIntEnds a → HasIntEnds b → HoldsOfRows IsSmallRow a b
rows_small a b ha hb = record {
  sums = sum_small;
  differences = difference_small;
  left_times = left_small b.lo (neg_small b.lo hb.0);
  right_times = right_small a.lo (neg_small a.lo ha.0);
  quotient = λ d e. record {
    left = one_small;
    right = none_small;
    result = neg_small d.lo (least_divisor b d hb.0 e);
    constant =
        none_small;
  };
  divisor = record { left = less_small; right = none_small; result = int_small b.lo hb.0; constant = less_one_small b.lo hb.0 };
  remainder = record { left = none_small; right = one_small; result = less_small; constant = less_small };
  power_times = left_small (power_of b) (power_neg_small b);
  power_quotient = record { left = one_small; right = none_small; result = power_neg_small b; constant = none_small };
  power_rest = record { left = less_small; right = none_small; result = power_small b; constant = power_less_small b };
  same = record { left = less_small; right = none_small; result = one_small; constant = none_small };
  under_left = record { left = one_small; right = none_small; result = less_small; constant = none_small };
  under_right = record { left = none_small; right = one_small; result = less_small; constant = none_small };
  over_left = record { left = less_small; right = none_small; result = one_small; constant = none_small };
  over_right = record { left = none_small; right = less_small; result = one_small; constant = none_small };
}

pub operated_small : (op : IntOp) (a b : Bounds) → HasIntEnds a → HasIntEnds b → AreFine IsSmallRow (operated op a b)
operated_small op a b ha hb = each_row IsSmallRow a b (rows_small a b ha hb) op

-- ---- comparisons: rows without a result

pub record IsPlainRow (row : ShortRow) : Type 0 where
  pub small : IsSmallRow row
  pub alone : row.result ≡ pos 0

row_plain : (relation : Relation) → IsPlainRow (row_of relation)
row_plain Equal = record {
  small = record { left = one_small; right = less_small; result = none_small; constant = none_small };
  alone = refl;
}
row_plain Below = record {
  small = record { left = less_small; right = one_small; result = none_small; constant = less_small };
  alone = refl;
}
row_plain AtMost = record {
  small = record { left = less_small; right = one_small; result = none_small; constant = none_small };
  alone = refl;
}
row_plain Above = record {
  small = record { left = one_small; right = less_small; result = none_small; constant = less_small };
  alone = refl;
}
row_plain AtLeast = record {
  small = record { left = one_small; right = less_small; result = none_small; constant = none_small };
  alone = refl;
}

pub compared_plain : (condition : Cond) (same : Bool) (a b : Bounds) → HaveEach IsPlainRow (compared condition same a b)
compared_plain = each_compared IsPlainRow row_plain

pub related_plain : (relation : Relation) (way : Way) (a b : Bounds) (case : IntCase) → related relation way a b ≡ Some case
    → HasEach IsPlainRow case
related_plain relation way a b case e = subst (λ found. IfSome found (HasEach IsPlainRow)) e
    (each_related IsPlainRow row_plain relation way a b)
