-- Every row of the cases of an operator and of a comparison: what holds of each row that their tables have holds of all.
use Rattle.std.proofs.Common.{◌≡◌, ◌==◌, ℤ, pos, negsuc, ◌-ℤ◌, neg_ℤ, Bool, true, false, cond, List, [], ◌∷◌, Option, Some, None}
use Rattle.std.proofs.Common.{refl, sym}
use Rattle.std.specs.Prelude.{int_le, ◌&&◌}
use Rattle.std.specs.List.{AllByRecursion, cons_option}
use Rattle.std.specs.Option.{IfSome, option_and_then}
use Rattle.std.proofs.lemmas.Option.{none-some}
use Rattle.abs_cells.specs.lin_core.Intervals.{Bounds, interval_of}
use Rattle.jvm_values.specs.declared.ints.IntOp.{IntOp}
use Rattle.jvm_values.specs.declared.ints.IntOp.TheVariants.{Add, Sub, Mul, Div, Rem, Shl, Shr, Ushr, And, Or, Xor, Narrow}
use Rattle.jvm_values.specs.declared.ints.Cond.{Cond}
use Rattle.jvm_values.specs.declared.ints.Cond.TheVariants.{Eq, Ne, Lt, Ge, Gt, Le}
use Rattle.jvm_values.specs.Kinds.{least_of, greatest_of}
use Rattle.jvm_values.specs.Ints.{int_result, shift_count}
use Rattle.abs_ints.specs.Bits.{is_natural, below_left, below_right, and_case, or_case, xor_case}
use Rattle.abs_ints.specs.Cases.{at_least_zero, is_zero, case_between, case_with, inside}
use Rattle.abs_ints.specs.Comparing.{standing_so, exchanged, row_of, related, both_of, cases_between, compared}
use Rattle.abs_ints.specs.Divisions.{divisors_of, are_positive, zero_case, quotients_of, single_divisor_rows, quotient_rows}
use Rattle.abs_ints.specs.Divisions.{remainders_of, dividend_rows, remainder_rows}
use Rattle.abs_ints.specs.Narrowings.{are_of_kind}
use Rattle.abs_ints.specs.Operating.{single_case, single_or, operated}
use Rattle.abs_ints.specs.IntIntervals.{all_ints, just, is_single, meet_of, sum_of, difference_of, hull_of, multiples_of, are_ints}
use Rattle.abs_ints.specs.IntIntervals.{ints_or_all}
use Rattle.abs_ints.specs.Products.{times_left, times_right, factor_rows, product_rows}
use Rattle.abs_ints.specs.Shifts.{power_of, shifted_left_rows, shifted_right_by, shifted_right, shifted_right_rows}
use Rattle.abs_ints.specs.Shifts.{shift_right_case, zeros_case, shift_zeros_case}
use Rattle.abs_ints.specs.Sums.{reached_by, wrapped_by, sum_row, difference_row, sum_case, difference_case}
use Rattle.abs_ints.specs.declared.cases.IntCase.{IntCase}
use Rattle.abs_ints.specs.declared.cases.ShortRow.{ShortRow}
use Rattle.abs_ints.specs.declared.cases.Way.{Way}
use Rattle.abs_ints.specs.declared.cases.Way.TheVariants.{Inside, Over, Under, Zero, Taken, Next}
use Rattle.abs_ints.specs.declared.relations.Relation.{Relation}
use Rattle.abs_ints.specs.declared.relations.Relation.TheVariants.{Equal, Below, AtMost, Above, AtLeast}
use Rattle.abs_ints.proofs.OperatorCases.{if_either}

-- rows of which something holds, which are there only where the case has a result
abbrev pub IsFine : (ShortRow → Type 0) → IntCase → Type 0
IsFine P case = AllByRecursion P case.rows × (case.result ≡ None → case.rows ≡ [])

abbrev pub AreFine : (ShortRow → Type 0) → List IntCase → Type 0
AreFine P cases = AllByRecursion (IsFine P) cases

-- rows of which something holds
abbrev pub HasEach : (ShortRow → Type 0) → IntCase → Type 0
HasEach P case = AllByRecursion P case.rows

abbrev pub HaveEach : (ShortRow → Type 0) → List IntCase → Type 0
HaveEach P cases = AllByRecursion (HasEach P) cases

pub fine_each : (P : ShortRow → Type 0) (cases : List IntCase) → AreFine P cases → HaveEach P cases
fine_each P [] h = tt
fine_each P (case ∷ cases) h = (h.0.0, fine_each P cases h.1)

-- ---- lists of cases

module _ (Q : IntCase → Type 0) where
  more : (found : Option IntCase) (cases : List IntCase) → IfSome found Q → AllByRecursion Q cases
      → AllByRecursion Q (cons_option found cases)
  more None cases i h = h
  more (Some case) cases i h = (i, h)

  one : (found : Option IntCase) → IfSome found Q → AllByRecursion Q (cons_option found [])
  one found i = more found [] i tt

  then_case : (found : Option Bounds) (f : Bounds → Option IntCase) → ((exact : Bounds) → found ≡ Some exact → IfSome (f exact) Q)
      → IfSome (option_and_then f found) Q
  then_case None f h = tt
  then_case (Some exact) f h = h exact refl

-- ---- operators

-- what is asked of a property of the rows of an operator on two intervals: it holds of each row that its table has
pub record HoldsOfRows (P : ShortRow → Type 0) (a b : Bounds) : Type 0 where
  pub sums : (way : Way) → P (sum_row way)
  pub differences : (way : Way) → P (difference_row way)
  -- products by a single number
  pub left_times : P (times_left b.lo)
  pub right_times : P (times_right a.lo)
  -- quotients by the least divisor, and by a single one
  pub quotient : (d : Bounds) → divisors_of b ≡ Some d → P (at_least_zero (pos 1) (pos 0) (neg_ℤ d.lo) (pos 0))
  pub divisor : P (at_least_zero (negsuc 0) (pos 0) b.lo (b.lo -ℤ pos 1))
  pub remainder : P (at_least_zero (pos 0) (pos 1) (negsuc 0) (negsuc 0))
  -- shifts by a single count
  pub power_times : P (times_left (power_of b))
  pub power_quotient : P (at_least_zero (pos 1) (pos 0) (neg_ℤ (power_of b)) (pos 0))
  pub power_rest : P (at_least_zero (negsuc 0) (pos 0) (power_of b) (power_of b -ℤ pos 1))
  -- results that are one of the operands, or at most or at least as great
  pub same : P (is_zero (negsuc 0) (pos 0) (pos 1) (pos 0))
  pub under_left : P below_left
  pub under_right : P below_right
  pub over_left : P (at_least_zero (negsuc 0) (pos 0) (pos 1) (pos 0))
  pub over_right : P (at_least_zero (pos 0) (negsuc 0) (pos 1) (pos 0))

module _ (P : ShortRow → Type 0) where
  abbrev IfFine : Option IntCase → Type 0
  IfFine found = IfSome found (IsFine P)

  with_rows : (way : Way) (left right result : Option Bounds) (rows : List ShortRow) → AllByRecursion P rows
      → IfFine (case_with way left right result rows)
  with_rows way None right result rows h = tt
  with_rows way (Some a) None result rows h = tt
  with_rows way (Some a) (Some b) None rows h = tt
  with_rows way (Some a) (Some b) (Some r) rows h = (h, λ e. absurd (none-some r (sym e)))

  within : (a b : Bounds) (result : Option Bounds) (rows : List ShortRow) → AllByRecursion P rows → IfFine (inside a b result rows)
  within a b result rows h = with_rows Inside (Some a) (Some b) result rows h

  bare : (way : Way) (left right : Option Bounds) → IfFine (case_between way left right [])
  bare way None right = tt
  bare way (Some a) None = tt
  bare way (Some a) (Some b) = (tt, λ e. refl)

  either : (test : Bool) (x y : Option IntCase) → IfFine x → IfFine y → IfFine (cond test x y)
  either true x y h k = h
  either false x y h k = k

  rows_either : (test : Bool) (xs ys : List ShortRow) → AllByRecursion P xs → AllByRecursion P ys → AllByRecursion P (cond test xs ys)
  rows_either true xs ys h k = h
  rows_either false xs ys h k = k

  -- ---- sums and differences

  sum_each : ((way : Way) → P (sum_row way)) → (way : Way) (a b : Bounds) → IfFine (sum_case way a b)
  sum_each rows way a b = then_case (IsFine P) (meet_of (reached_by way) (sum_of a b))
      (λ exact. case_with way (meet_of a (difference_of exact b)) (meet_of b (difference_of exact a))
      (meet_of all_ints (wrapped_by way exact)) (sum_row way ∷ []))
      (λ exact e. with_rows way (meet_of a (difference_of exact b)) (meet_of b (difference_of exact a))
      (meet_of all_ints (wrapped_by way exact)) (sum_row way ∷ []) (rows way, tt))

  pub each_sum : ((way : Way) → P (sum_row way)) → (a b : Bounds) → AreFine P (operated Add a b)
  each_sum rows a b =
      more (IsFine P) (sum_case Inside a b) (cons_option (sum_case Over a b) (cons_option (sum_case Under a b) []))
      (sum_each rows Inside a b)
      (more (IsFine P) (sum_case Over a b) (cons_option (sum_case Under a b) []) (sum_each rows Over a b)
      (one (IsFine P) (sum_case Under a b) (sum_each rows Under a b)))

  difference_each : ((way : Way) → P (difference_row way)) → (way : Way) (a b : Bounds) → IfFine (difference_case way a b)
  difference_each rows way a b = then_case (IsFine P) (meet_of (reached_by way) (difference_of a b))
      (λ exact. case_with way (meet_of a (sum_of exact b)) (meet_of b (difference_of a exact))
      (meet_of all_ints (wrapped_by way exact)) (difference_row way ∷ []))
      (λ exact e. with_rows way (meet_of a (sum_of exact b)) (meet_of b (difference_of a exact))
      (meet_of all_ints (wrapped_by way exact)) (difference_row way ∷ []) (rows way, tt))

  pub each_difference : ((way : Way) → P (difference_row way)) → (a b : Bounds) → AreFine P (operated Sub a b)
  each_difference rows a b =
      more (IsFine P) (difference_case Inside a b)
      (cons_option (difference_case Over a b) (cons_option (difference_case Under a b) [])) (difference_each rows Inside a b)
      (more (IsFine P) (difference_case Over a b) (cons_option (difference_case Under a b) []) (difference_each rows Over a b)
      (one (IsFine P) (difference_case Under a b) (difference_each rows Under a b)))

  -- ---- single numbers

  by_zero : (a b : Bounds) → IfFine (zero_case a b)
  by_zero a b = bare Zero (Some a) (meet_of b (just (pos 0)))

  single : (a b : Bounds) (found : Option ℤ) → IfFine (single_case a b found)
  single a b None = by_zero a b
  single a b (Some n) = within a b (Some (just n)) [] tt

  single_or_each : (op : IntOp) (a b : Bounds) (cases : List IntCase) → AreFine P cases → AreFine P (single_or op a b cases)
  single_or_each op a b cases h = if_either (AreFine P) (is_single a && is_single b)
      (cons_option (single_case a b (int_result op a.lo b.lo)) []) cases
      (λ t. one (IsFine P) (single_case a b (int_result op a.lo b.lo)) (single a b (int_result op a.lo b.lo))) (λ f. h)

  -- ---- each operator

  module _ (a b : Bounds) (holds : HoldsOfRows P a b) where
    products : AllByRecursion P (product_rows a b)
    products =
        rows_either (are_ints (hull_of a b)) (factor_rows a b) []
        (rows_either (is_single b) (times_left b.lo ∷ []) (cond (is_single a) (times_right a.lo ∷ []) []) (holds.left_times, tt)
        (rows_either (is_single a) (times_right a.lo ∷ []) [] (holds.right_times, tt) tt)) tt

    dividends : AllByRecursion P (dividend_rows a)
    dividends = rows_either (int_le (pos 0) a.lo) (below_left ∷ []) [] (holds.under_left, tt) tt

    quotients : (d : Bounds) → divisors_of b ≡ Some d → AllByRecursion P (quotient_rows a b d)
    quotients d e =
        rows_either (are_positive d && int_le (pos 0) a.lo)
        (at_least_zero (pos 1) (pos 0) (neg_ℤ d.lo) (pos 0) ∷ single_divisor_rows b) [] (
          holds.quotient d e,
          rows_either (is_single b) (at_least_zero (negsuc 0) (pos 0) b.lo (b.lo -ℤ pos 1) ∷ []) []
              (holds.divisor, tt) tt,
        ) tt

    remainders : (d : Bounds) → AllByRecursion P (remainder_rows a d)
    remainders d = rows_either (are_positive d) (at_least_zero (pos 0) (pos 1) (negsuc 0) (negsuc 0) ∷ dividend_rows a) []
        (holds.remainder, dividends) tt

    shifted_right_each : IfFine (shift_right_case a b)
    shifted_right_each =
        either (is_single b) (inside a b (shifted_right_by a (shift_count b.lo)) (shifted_right_rows (power_of b)))
        (inside a b (shifted_right a) (dividend_rows a))
        (within a b (shifted_right_by a (shift_count b.lo)) (shifted_right_rows (power_of b))
        (holds.power_quotient, (holds.power_rest, tt)))
        (within a b (shifted_right a) (dividend_rows a) dividends)

    divided : (op : IntOp) (results : Bounds → Option Bounds) (rows : Bounds → List ShortRow)
        → ((d : Bounds) → divisors_of b ≡ Some d → AllByRecursion P (rows d))
        → AreFine P (single_or op a b (cons_option (option_and_then (λ d. inside a d (results d) (rows d)) (divisors_of b))
        (cons_option (zero_case a b) [])))
    divided op results rows h =
        single_or_each op a b _ (more (IsFine P) (option_and_then (λ d. inside a d (results d) (rows d)) (divisors_of b))
        (cons_option (zero_case a b) [])
        (then_case (IsFine P) (divisors_of b) (λ d. inside a d (results d) (rows d)) (λ d e. within a d (results d) (rows d) (h d e)))
        (one (IsFine P) (zero_case a b) (by_zero a b)))

    alone : (op : IntOp) (found : Option IntCase) → IfFine found → AreFine P (single_or op a b (cons_option found []))
    alone op found h = single_or_each op a b (cons_option found []) (one (IsFine P) found h)

    pub each_row : (op : IntOp) → AreFine P (operated op a b)
    each_row Add = each_sum holds.sums a b
    each_row Sub = each_difference holds.differences a b
    each_row Mul = alone Mul _ (within a b (ints_or_all (hull_of a b)) (product_rows a b) products)
    each_row Div = divided Div (quotients_of a) (quotient_rows a b) quotients
    each_row Rem = divided Rem (remainders_of a) (remainder_rows a) (λ d e. remainders d)
    each_row Shl =
        alone Shl _ (either (is_single b) (inside a b (ints_or_all (multiples_of (power_of b) a)) (shifted_left_rows a b))
        (inside a b (Some all_ints) [])
        (within a b (ints_or_all (multiples_of (power_of b) a)) (shifted_left_rows a b)
        (rows_either (are_ints (multiples_of (power_of b) a)) (times_left (power_of b) ∷ []) [] (holds.power_times, tt) tt))
        (within a b (Some all_ints) [] tt))
    each_row Shr = alone Shr (shift_right_case a b) shifted_right_each
    each_row Ushr =
        alone Ushr (shift_zeros_case a b)
        (either (int_le (pos 0) a.lo) (shift_right_case a b)
        (cond (is_single b) (zeros_case a b (shift_count b.lo)) (inside a b (Some all_ints) [])) shifted_right_each
        (either (is_single b) (zeros_case a b (shift_count b.lo)) (inside a b (Some all_ints) [])
        (either (shift_count b.lo == 0) _ _ (within a b (Some a) (is_zero (negsuc 0) (pos 0) (pos 1) (pos 0) ∷ []) (holds.same, tt))
        (within a b _ [] tt))
        (within a b (Some all_ints) [] tt)))
    each_row And =
        alone And (and_case a b)
        (either (is_natural a && is_natural b) _ _
        (within a b _ (below_left ∷ below_right ∷ []) (holds.under_left, (holds.under_right, tt)))
        (either (is_natural a) _ _ (within a b _ (below_left ∷ []) (holds.under_left, tt))
        (either (is_natural b) _ _ (within a b _ (below_right ∷ []) (holds.under_right, tt)) (within a b (Some all_ints) [] tt))))
    each_row Or =
        alone Or (or_case a b)
        (either (is_natural a && is_natural b) _ _
        (within a b _ (at_least_zero (negsuc 0) (pos 0) (pos 1) (pos 0) ∷ at_least_zero (pos 0) (negsuc 0) (pos 1) (pos 0)
        ∷ []) (holds.over_left, (holds.over_right, tt)))
        (within a b (Some all_ints) [] tt))
    each_row Xor = alone Xor (xor_case a b)
        (either (is_natural a && is_natural b) _ _ (within a b _ [] tt) (within a b (Some all_ints) [] tt))
    each_row (Narrow kind) =
        one (IsFine P) _ (either (are_of_kind kind a) (case_between Inside (Some a) (Some b) [])
        (inside a b (interval_of (least_of kind) (greatest_of kind)) []) (bare Inside (Some a) (Some b))
        (within a b (interval_of (least_of kind) (greatest_of kind)) [] tt))

-- ---- comparisons

module _ (P : ShortRow → Type 0) (holds : (relation : Relation) → P (row_of relation)) where
  abbrev IfEach : Option IntCase → Type 0
  IfEach found = IfSome found (HasEach P)

  stands : (way : Way) (left right : Option Bounds) (rows : List ShortRow) → AllByRecursion P rows
      → IfEach (case_between way left right rows)
  stands way None right rows h = tt
  stands way (Some a) None rows h = tt
  stands way (Some a) (Some b) rows h = h

  pub each_related : (relation : Relation) (way : Way) (a b : Bounds) → IfEach (related relation way a b)
  each_related relation way a b = stands way (standing_so relation a b) (standing_so (exchanged relation) b a)
      (row_of relation ∷ []) (holds relation, tt)

  both : (r s : Relation) (w v : Way) (a b : Bounds) → HaveEach P (both_of (related r w a b) (related s v a b))
  both r s w v a b = more (HasEach P) (related r w a b) (cons_option (related s v a b) []) (each_related r w a b)
      (one (HasEach P) (related s v a b) (each_related s v a b))

  between : (condition : Cond) (a b : Bounds) → HaveEach P (cases_between condition a b)
  between Eq a b = more (HasEach P) (related Equal Taken a b) (both_of (related Below Next a b) (related Above Next a b))
      (each_related Equal Taken a b) (both Below Above Next Next a b)
  between Ne a b = more (HasEach P) (related Below Taken a b) (both_of (related Above Taken a b) (related Equal Next a b))
      (each_related Below Taken a b) (both Above Equal Taken Next a b)
  between Lt a b = both Below AtLeast Taken Next a b
  between Ge a b = both AtLeast Below Taken Next a b
  between Gt a b = both Above AtMost Taken Next a b
  between Le a b = both AtMost Above Taken Next a b

  pub each_compared : (condition : Cond) (same : Bool) (a b : Bounds) → HaveEach P (compared condition same a b)
  each_compared condition true a b = (tt, tt)
  each_compared condition false a b = between condition a b
