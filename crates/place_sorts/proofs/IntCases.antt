-- The intervals of cases of abstract ints have ints as their ends.
use Rattle.std.proofs.Common.{◌≡◌, ◌==◌, ◌-◌, ◌≤◌, ◌^◌, ℕ, zero, suc, ℤ, pos, negsuc, ◌-ℤ◌, ◌≤ℤ◌, neg_ℤ, Bool, true, false}
use Rattle.std.proofs.Common.{cond, List, [], ◌∷◌, Option, Some, None, refl, subst, lit<, arith}
use Rattle.std.specs.Prelude.{int_le}
use Rattle.std.specs.Int.{int_max, int_min, int_shr}
use Rattle.std.specs.List.{AllByRecursion, cons_option}
use Rattle.std.specs.Option.{IfSome, option_and_then}
use Rattle.std.specs.Ordering.{int_eq}
use Rattle.std.proofs.Math.Nat.{div-le_self, pow-le-pow_right}
use Rattle.std.proofs.lemmas.Bool.{eqb-false}
use Rattle.std.proofs.lemmas.Int.{ints, clamps}
use Rattle.std.proofs.lemmas.Option.{none-some}
use Rattle.lin_core.specs.Intervals.{Bounds, interval_of}
use Rattle.jvm_values.specs.declared.ints.IntOp.{IntOp}
use Rattle.jvm_values.specs.declared.ints.IntOp.TheVariants.{Add, Sub, Mul, Div, Rem, Shl, Shr, Ushr, And, Or, Xor, Narrow}
use Rattle.jvm_values.specs.declared.ints.Cond.{Cond}
use Rattle.jvm_values.specs.declared.ints.Cond.TheVariants.{Eq, Ne, Lt, Ge, Gt, Le}
use Rattle.jvm_values.specs.declared.types.Kind.{Kind}
use Rattle.jvm_values.specs.declared.types.Kind.TheVariants as kinds
use Rattle.jvm_values.specs.Kinds.{IsOfKind, least_of, greatest_of}
use Rattle.jvm_values.specs.Ints.{int_result, shift_count}
use Rattle.jvm_values.proofs.IntRanges.{shift_near}
use Rattle.jvm_values.proofs.Options.{some_is}
use Rattle.jvm_run.proofs.Numbers.{result_is}
use Rattle.abs_ints.specs.Bits.{is_natural, and_case, ones_over, or_case, xor_case}
use Rattle.abs_ints.specs.Cases.{case_between, case_with, inside, only}
use Rattle.abs_ints.specs.Comparing.{standing_so, exchanged, row_of, related, both_of, cases_of_one, cases_between, compared}
use Rattle.abs_ints.specs.Divisions.{divisors_of, are_positive, size_of, zero_case, least_quotient, greatest_quotient, may_wrap}
use Rattle.abs_ints.specs.Divisions.{quotients_of, quotient_rows, quotient_cases, least_remainder, greatest_remainder}
use Rattle.abs_ints.specs.Divisions.{remainders_of, remainder_rows, remainder_cases}
use Rattle.abs_ints.specs.IntIntervals.{all_ints, just, is_single, meet_of, sum_of, difference_of, multiples_of, hull_of, are_ints}
use Rattle.abs_ints.specs.IntIntervals.{ints_or_all}
use Rattle.abs_ints.specs.Narrowings.{are_of_kind, narrow_cases}
use Rattle.abs_ints.specs.Operating.{single_case, single_or, operated}
use Rattle.abs_ints.specs.Products.{product_cases, product_rows}
use Rattle.abs_ints.specs.Shifts.{power_of, shifted_left_rows, shift_left_cases, shift_right_case, shift_zeros_case, zeros_case}
use Rattle.abs_ints.specs.Sums.{reached_by, wrapped_by, sum_row, sum_case, difference_row, difference_case}
use Rattle.abs_ints.specs.declared.cases.IntCase.{IntCase}
use Rattle.abs_ints.specs.declared.cases.ShortRow.{ShortRow}
use Rattle.abs_ints.specs.declared.cases.Way.{Way}
use Rattle.abs_ints.specs.declared.cases.Way.TheVariants.{Inside, Over, Under, Zero}
use Rattle.abs_ints.specs.declared.relations.Relation.{Relation}
use Rattle.abs_ints.specs.declared.relations.Relation.TheVariants.{Equal, Below, AtMost, Above, AtLeast}
use Rattle.abs_ints.proofs.Covering.{bounds}
use Rattle.abs_ints.proofs.OperatorCases.{if_either}
use Rattle.place_sorts.specs.Laws.{HasIntEnds, IsIntCase, ResultsStayInts, BranchesStayInts}

abbrev IsInt : ℤ → Type 0
IsInt n = IsOfKind kinds.Int n

-- the interval is one, if it is there
record IfInts (found : Option Bounds) : Type 0 where
  are : IfSome found HasIntEnds

-- the case is one, if it is there
record IfIntCase (found : Option IntCase) : Type 0 where
  is : IfSome found IsIntCase

abbrev AreIntCases : List IntCase → Type 0
AreIntCases cases = AllByRecursion IsIntCase cases

-- ---- intervals

-- from a number that isn't below all ints to one that isn't above them
between_ints : (lo hi : ℤ) → negsuc 2147483647 ≤ℤ lo → hi ≤ℤ pos 2147483647 → IfInts (interval_of lo hi)
between_ints lo hi l h = by (int_le lo hi) refl
  where
    by : (t : Bool) → int_le lo hi ≡ t → IfInts (cond t (Some (bounds lo hi)) None)
    by true o = record { are = ((l, omega (arith, ints)), (omega (arith, ints), h)) }
    by false o = record { are = tt }

pub all_are : HasIntEnds all_ints
all_are = ((omega (arith, ints), omega (arith, ints)), (omega (arith, ints), omega (arith, ints)))

-- what an interval of ints has in common with another one
met_ints : (a b : Bounds) → HasIntEnds a → IfInts (interval_of (int_max a.lo b.lo) (int_min a.hi b.hi))
met_ints a b h =
    let low = h.0.0 in
    let high = h.1.1 in
    between_ints (int_max a.lo b.lo) (int_min a.hi b.hi) (omega (arith, ints, clamps)) (omega (arith, ints, clamps))

-- what two intervals have in common, where the first is one of ints
pub met_is : (a b both : Bounds) → HasIntEnds a → meet_of a b ≡ Some both → HasIntEnds both
met_is a b both h e = (subst IfInts e (met_ints a b h)).are

all_may : IfInts (Some all_ints)
all_may = record { are = all_are }

or_all_ints : (a : Bounds) → IfInts (ints_or_all a)
or_all_ints a = if_either IfInts (are_ints a) (meet_of all_ints a) (Some all_ints) (λ e. met_ints all_ints a all_are) (λ e. all_may)

-- all numbers of a kind
pub kind_bounds : (kind : Kind) → HasIntEnds (bounds (least_of kind) (greatest_of kind))
kind_bounds kinds.Boolean = ((omega (arith, ints), omega (arith, ints)), (omega (arith, ints), omega (arith, ints)))
kind_bounds kinds.Char = ((omega (arith, ints), omega (arith, ints)), (omega (arith, ints), omega (arith, ints)))
kind_bounds kinds.Byte = ((omega (arith, ints), omega (arith, ints)), (omega (arith, ints), omega (arith, ints)))
kind_bounds kinds.Short = ((omega (arith, ints), omega (arith, ints)), (omega (arith, ints), omega (arith, ints)))
kind_bounds kinds.Int = ((omega (arith, ints), omega (arith, ints)), (omega (arith, ints), omega (arith, ints)))

-- ---- cases

with_ints : (way : Way) (left right result : Option Bounds) (rows : List ShortRow) → IfInts left → IfInts right → IfInts result
    → IfIntCase (case_with way left right result rows)
with_ints way None right result rows l r s = record { is = tt }
with_ints way (Some a) None result rows l r s = record { is = tt }
with_ints way (Some a) (Some b) None rows l r s = record { is = tt }
with_ints way (Some a) (Some b) (Some c) rows l r s = record { is = record { left = l.are; right = r.are; result = s.are } }

bare_ints : (way : Way) (left right : Option Bounds) (rows : List ShortRow) → IfInts left → IfInts right
    → IfIntCase (case_between way left right rows)
bare_ints way None right rows l r = record { is = tt }
bare_ints way (Some a) None rows l r = record { is = tt }
bare_ints way (Some a) (Some b) rows l r = record { is = record { left = l.are; right = r.are; result = tt } }

then_ints : (found : Option Bounds) (f : Bounds → Option IntCase) → ((exact : Bounds) → found ≡ Some exact → IfIntCase (f exact))
    → IfIntCase (option_and_then f found)
then_ints None f h = record { is = tt }
then_ints (Some exact) f h = h exact refl

more : (found : Option IntCase) (cases : List IntCase) → IfIntCase found → AreIntCases cases → AreIntCases (cons_option found cases)
more None cases i h = h
more (Some case) cases i h = (i.is, h)

module _ (a b : Bounds) (ha : HasIntEnds a) (hb : HasIntEnds b) where
  inside_ints : (result : Option Bounds) (rows : List ShortRow) → IfInts result → IfIntCase (inside a b result rows)
  inside_ints result rows h = with_ints Inside (Some a) (Some b) result rows (record { are = ha }) (record { are = hb }) h

  alone : (found : Option IntCase) → IfIntCase found → AreIntCases (only found)
  alone found h = more found [] h tt

  zero_ints : IfIntCase (zero_case a b)
  zero_ints = bare_ints Zero (Some a) (meet_of b (just (pos 0))) [] (record { are = ha }) (met_ints b (just (pos 0)) hb)

  -- ---- sums and differences

  sum_ints : (way : Way) → IfIntCase (sum_case way a b)
  sum_ints way =
      then_ints (meet_of (reached_by way) (sum_of a b))
      (λ exact. case_with way (meet_of a (difference_of exact b)) (meet_of b (difference_of exact a))
      (meet_of all_ints (wrapped_by way exact)) (sum_row way ∷ []))
      (λ exact e.
      with_ints way (meet_of a (difference_of exact b)) (meet_of b (difference_of exact a))
      (meet_of all_ints (wrapped_by way exact)) (sum_row way ∷ [])
      (met_ints a (difference_of exact b) ha) (met_ints b (difference_of exact a) hb) (met_ints all_ints (wrapped_by way exact) all_are))

  difference_ints : (way : Way) → IfIntCase (difference_case way a b)
  difference_ints way =
      then_ints (meet_of (reached_by way) (difference_of a b))
      (λ exact. case_with way (meet_of a (sum_of exact b)) (meet_of b (difference_of a exact))
      (meet_of all_ints (wrapped_by way exact)) (difference_row way ∷ []))
      (λ exact e.
      with_ints way (meet_of a (sum_of exact b)) (meet_of b (difference_of a exact)) (meet_of all_ints (wrapped_by way exact))
      (difference_row way ∷ [])
      (met_ints a (sum_of exact b) ha) (met_ints b (difference_of a exact) hb) (met_ints all_ints (wrapped_by way exact) all_are))

  -- ---- shifts

  shifted_ints : (count : ℕ) → IfInts (interval_of (int_shr a.lo count) (int_shr a.hi count))
  shifted_ints count =
      let low = shift_near a.lo count in
      let high = shift_near a.hi count in
      let first = low.0 in
      let last = high.1 in
      let least = ha.0.0 in
      let most = ha.1.1 in
      between_ints (int_shr a.lo count) (int_shr a.hi count) (omega (arith, ints, clamps)) (omega (arith, ints, clamps))

  nearer_ints : IfInts (interval_of (int_min a.lo (pos 0)) (int_max a.hi (negsuc 0)))
  nearer_ints =
      let least = ha.0.0 in
      let most = ha.1.1 in
      between_ints (int_min a.lo (pos 0)) (int_max a.hi (negsuc 0)) (omega (arith, ints, clamps)) (omega (arith, ints, clamps))

  right_ints : IfIntCase (shift_right_case a b)
  right_ints =
      if_either IfIntCase (is_single b)
      (inside a b (interval_of (int_shr a.lo (shift_count b.lo)) (int_shr a.hi (shift_count b.lo))) _) (inside a b _ _)
      (λ e. inside_ints _ _ (shifted_ints (shift_count b.lo))) (λ e. inside_ints _ _ nearer_ints)

  -- 2 to the power of 32 and less is at most 2^31
  power_low : (count : ℕ) → (count == 0) ≡ false → 2 ^ (32 - count) ≤ 2147483648
  power_low zero e = absurd (eqb-false 0 0 e refl)
  power_low (suc k) e = let l : 32 - suc k ≤ 31 = omega arith in pow-le-pow_right (lit< tt) l

  padded_ints : (count : ℕ) → (count == 0) ≡ false → IfInts (interval_of (pos 0) (pos (2 ^ (32 - count)) -ℤ pos 1))
  padded_ints count e = let l = power_low count e in between_ints (pos 0) (pos (2 ^ (32 - count)) -ℤ pos 1) (omega (arith, ints))
      (omega (arith, ints, l))

  some_zeros_ints : (count : ℕ) → IfIntCase (zeros_case a b count)
  some_zeros_ints count = if_either IfIntCase (count == 0) (inside a b (Some a) _) (inside a b _ _)
      (λ e. inside_ints (Some a) _ (record { are = ha })) (λ e. inside_ints _ _ (padded_ints count e))

  zeros_ints : IfIntCase (shift_zeros_case a b)
  zeros_ints =
      if_either IfIntCase (int_le (pos 0) a.lo) (shift_right_case a b) _ (λ e. right_ints)
      (λ e. if_either IfIntCase (is_single b) (zeros_case a b (shift_count b.lo)) _ (λ f. some_zeros_ints (shift_count b.lo))
      (λ f. inside_ints (Some all_ints) [] all_may))

  -- ---- bits

  and_ints : IfIntCase (and_case a b)
  and_ints =
      let left = ha.1.1 in
      let right = hb.1.1 in
      if_either IfIntCase _ (inside a b (interval_of (pos 0) (int_min a.hi b.hi)) _) _
      (λ e. inside_ints (interval_of (pos 0) (int_min a.hi b.hi)) _
      (between_ints (pos 0) (int_min a.hi b.hi) (omega (arith, ints)) (omega (arith, ints, clamps))))
      (λ e. if_either IfIntCase (is_natural a) (inside a b (interval_of (pos 0) a.hi) _) _
      (λ f. inside_ints (interval_of (pos 0) a.hi) _ (between_ints (pos 0) a.hi (omega (arith, ints)) left))
      (λ f. if_either IfIntCase (is_natural b) (inside a b (interval_of (pos 0) b.hi) _) _
      (λ g. inside_ints (interval_of (pos 0) b.hi) _ (between_ints (pos 0) b.hi (omega (arith, ints)) right))
      (λ g. inside_ints (Some all_ints) [] all_may)))

  or_ints : IfIntCase (or_case a b)
  or_ints =
      if_either IfIntCase _ (inside a b (meet_of all_ints (bounds (int_max a.lo b.lo) (ones_over a b))) _) _
      (λ e. inside_ints _ _ (met_ints all_ints (bounds (int_max a.lo b.lo) (ones_over a b)) all_are))
      (λ e. inside_ints (Some all_ints) [] all_may)

  xor_ints : IfIntCase (xor_case a b)
  xor_ints =
      if_either IfIntCase _ (inside a b (meet_of all_ints (bounds (pos 0) (ones_over a b))) _) _
      (λ e. inside_ints _ _ (met_ints all_ints (bounds (pos 0) (ones_over a b)) all_are)) (λ e. inside_ints (Some all_ints) [] all_may)

  -- ---- narrowings

  kind_ints : (kind : Kind) → IfInts (interval_of (least_of kind) (greatest_of kind))
  kind_ints kind = let b = kind_bounds kind in between_ints (least_of kind) (greatest_of kind) b.0.0 b.1.1

  narrowed_ints : (kind : Kind) → AreIntCases (narrow_cases kind a b)
  narrowed_ints kind =
      alone _ (if_either IfIntCase (are_of_kind kind a) (case_between Inside (Some a) (Some b) []) _
      (λ e. bare_ints Inside (Some a) (Some b) [] (record { are = ha }) (record { are = hb }))
      (λ e. inside_ints (interval_of (least_of kind) (greatest_of kind)) [] (kind_ints kind)))

  -- ---- single numbers

  single_ints : (found : Option ℤ) → IfSome found IsInt → IfIntCase (single_case a b found)
  single_ints None h = zero_ints
  single_ints (Some n) h = inside_ints (Some (just n)) [] (record { are = (h, h) })

  or_single : (op : IntOp) (cases : List IntCase) → AreIntCases cases → AreIntCases (single_or op a b cases)
  or_single op cases h =
      if_either AreIntCases _ (only (single_case a b (int_result op a.lo b.lo))) cases
      (λ e. alone (single_case a b (int_result op a.lo b.lo)) (single_ints (int_result op a.lo b.lo) (result_is op a.lo b.lo ha.0)))
      (λ e. h)

-- ---- quotients and remainders

one_or : (n : ℤ) → negsuc 2147483647 ≤ℤ n → negsuc 2147483647 ≤ℤ cond (int_eq n (pos 0)) (pos 1) n
one_or n h = if_either (λ (m : ℤ). negsuc 2147483647 ≤ℤ m) (int_eq n (pos 0)) (pos 1) n (λ e. omega (arith, ints)) (λ e. h)

less_or : (n : ℤ) → n ≤ℤ pos 2147483647 → cond (int_eq n (pos 0)) (negsuc 0) n ≤ℤ pos 2147483647
less_or n h = if_either (λ (m : ℤ). m ≤ℤ pos 2147483647) (int_eq n (pos 0)) (negsuc 0) n (λ e. omega (arith, ints)) (λ e. h)

-- an interval that is there
record IsOrdered (d : Bounds) : Type 0 where
  in_order : d.lo ≤ℤ d.hi

ordered : (lo hi : ℤ) (d : Bounds) → interval_of lo hi ≡ Some d → IsOrdered d
ordered lo hi d e = by (int_le lo hi) refl e
  where
    by : (t : Bool) → int_le lo hi ≡ t → cond t (Some (bounds lo hi)) None ≡ Some d → IsOrdered d
    by true o f = subst IsOrdered (some_is f) (record { in_order = omega (arith, ints) })
    by false o f = absurd (none-some d f)

found_ints : (found : Option Bounds) (d : Bounds) → found ≡ Some d → IfInts found → HasIntEnds d
found_ints found d e h = (subst IfInts e h).are

divisors_ints : (b d : Bounds) → HasIntEnds b → divisors_of b ≡ Some d → HasIntEnds d
divisors_ints b d h e = found_ints (divisors_of b) d e
    (between_ints (cond (int_eq b.lo (pos 0)) (pos 1) b.lo) (cond (int_eq b.hi (pos 0)) (negsuc 0) b.hi) (one_or b.lo h.0.0)
    (less_or b.hi h.1.1))

least_int : (n l u : ℤ) → IsInt n → pos 1 ≤ℤ l → l ≤ℤ u → negsuc 2147483647 ≤ℤ least_quotient n (bounds l u)
least_int n (negsuc d) u h i j = absurd (omega (arith, ints))
least_int n (pos d) (negsuc e) h i j = absurd (omega (arith, ints))
least_int (pos x) (pos d) (pos e) h i j = let k = div-le_self x e in let most = h.1 in omega (arith, ints)
least_int (negsuc x) (pos d) (pos e) h i j = let k = div-le_self (suc x) d in let least = h.0 in omega (arith, ints)

greatest_int : (n l u : ℤ) → IsInt n → pos 1 ≤ℤ l → l ≤ℤ u → greatest_quotient n (bounds l u) ≤ℤ pos 2147483647
greatest_int n (negsuc d) u h i j = absurd (omega (arith, ints))
greatest_int n (pos d) (negsuc e) h i j = absurd (omega (arith, ints))
greatest_int (pos x) (pos d) (pos e) h i j = let k = div-le_self x d in let most = h.1 in omega (arith, ints)
greatest_int (negsuc x) (pos d) (pos e) h i j = omega (arith, ints)

module _ (a d : Bounds) (ha : HasIntEnds a) (hd : HasIntEnds d) (o : IsOrdered d) where
  quotients_ints : IfInts (quotients_of a d)
  quotients_ints =
      if_either IfInts (are_positive d) (interval_of (least_quotient a.lo d) (greatest_quotient a.hi d)) _
      (λ e. between_ints (least_quotient a.lo d) (greatest_quotient a.hi d)
      (least_int a.lo d.lo d.hi ha.0 (one_at d.lo e) o.in_order) (greatest_int a.hi d.lo d.hi ha.1 (one_at d.lo e) o.in_order))
      (λ e. if_either IfInts (may_wrap a d) (Some all_ints) _ (λ f. all_may)
      (λ f. met_ints all_ints (bounds (neg_ℤ (pos (size_of a))) (pos (size_of a))) all_are))
    where
      one_at : (l : ℤ) → int_le (pos 1) l ≡ true → pos 1 ≤ℤ l
      one_at l e = omega (arith, ints)

  least_rest : (n : ℤ) (s : ℕ) → IsInt n → negsuc 2147483647 ≤ℤ least_remainder n s
  least_rest (pos n) s h = omega (arith, ints)
  least_rest (negsuc n) s h = let least = h.0 in omega (arith, ints, clamps)

  greatest_rest : (n : ℤ) (s : ℕ) → IsInt n → greatest_remainder n s ≤ℤ pos 2147483647
  greatest_rest (pos n) s h = let most = h.1 in omega (arith, ints, clamps)
  greatest_rest (negsuc n) s h = omega (arith, ints)

  remainders_ints : IfInts (remainders_of a d)
  remainders_ints =
      between_ints (least_remainder a.lo (size_of d - 1)) (greatest_remainder a.hi (size_of d - 1))
      (least_rest a.lo (size_of d - 1) ha.0) (greatest_rest a.hi (size_of d - 1) ha.1)

module _ (a b : Bounds) (ha : HasIntEnds a) (hb : HasIntEnds b) where
  divided_ints : (result : Bounds → Option Bounds) (rows : Bounds → List ShortRow)
      → ((d : Bounds) → HasIntEnds d → IsOrdered d → IfInts (result d))
      → AreIntCases (cons_option (option_and_then (λ d. inside a d (result d) (rows d)) (divisors_of b)) (cons_option (zero_case a b) []))
  divided_ints result rows h =
      more (option_and_then (λ d. inside a d (result d) (rows d)) (divisors_of b)) (cons_option (zero_case a b) [])
      (then_ints (divisors_of b) (λ d. inside a d (result d) (rows d)) (λ d e.
      let of_ints = divisors_ints b d hb e in
      inside_ints a d ha of_ints (result d) (rows d)
      (h d of_ints (ordered (cond (int_eq b.lo (pos 0)) (pos 1) b.lo) (cond (int_eq b.hi (pos 0)) (negsuc 0) b.hi) d e))))
      (more (zero_case a b) [] (zero_ints a b ha hb) tt)

  three : (first second third : Option IntCase) → IfIntCase first → IfIntCase second → IfIntCase third
      → AreIntCases (cons_option first (cons_option second (cons_option third [])))
  three first second third h i j = more first _ h (more second _ i (more third [] j tt))

  -- ---- all operators

  operated_ints : (op : IntOp) → AreIntCases (operated op a b)
  operated_ints Add = three (sum_case Inside a b) (sum_case Over a b) (sum_case Under a b) (sum_ints a b ha hb Inside)
      (sum_ints a b ha hb Over) (sum_ints a b ha hb Under)
  operated_ints Sub =
      three (difference_case Inside a b) (difference_case Over a b) (difference_case Under a b)
      (difference_ints a b ha hb Inside) (difference_ints a b ha hb Over) (difference_ints a b ha hb Under)
  operated_ints Mul =
      or_single a b ha hb Mul (product_cases a b)
      (alone a b ha hb _ (inside_ints a b ha hb (ints_or_all (hull_of a b)) (product_rows a b) (or_all_ints (hull_of a b))))
  operated_ints Div =
      or_single a b ha hb Div (quotient_cases a b)
      (divided_ints (quotients_of a) (quotient_rows a b) (λ d hd o. quotients_ints a d ha hd o))
  operated_ints Rem =
      or_single a b ha hb Rem (remainder_cases a b)
      (divided_ints (remainders_of a) (remainder_rows a) (λ d hd o. remainders_ints a d ha hd o))
  operated_ints Shl =
      or_single a b ha hb Shl (shift_left_cases a b)
      (alone a b ha hb _ (if_either IfIntCase (is_single b)
      (inside a b (ints_or_all (multiples_of (power_of b) a)) (shifted_left_rows a b)) _
      (λ e. inside_ints a b ha hb (ints_or_all (multiples_of (power_of b) a)) (shifted_left_rows a b)
      (or_all_ints (multiples_of (power_of b) a)))
      (λ e. inside_ints a b ha hb (Some all_ints) [] all_may)))
  operated_ints Shr = or_single a b ha hb Shr _ (alone a b ha hb _ (right_ints a b ha hb))
  operated_ints Ushr = or_single a b ha hb Ushr _ (alone a b ha hb _ (zeros_ints a b ha hb))
  operated_ints And = or_single a b ha hb And _ (alone a b ha hb _ (and_ints a b ha hb))
  operated_ints Or = or_single a b ha hb Or _ (alone a b ha hb _ (or_ints a b ha hb))
  operated_ints Xor = or_single a b ha hb Xor _ (alone a b ha hb _ (xor_ints a b ha hb))
  operated_ints (Narrow kind) = narrowed_ints a b ha hb kind

pub results_stay : ResultsStayInts
results_stay op a b ha hb = operated_ints a b ha hb op

-- ---- comparisons

standing_ints : (relation : Relation) (a b : Bounds) → HasIntEnds a → IfInts (standing_so relation a b)
standing_ints Equal a b h = met_ints a b h
standing_ints Below a b h = let low = h.0.0 in let high = h.1.1 in between_ints _ _ low (omega (arith, ints, clamps))
standing_ints AtMost a b h = let low = h.0.0 in let high = h.1.1 in between_ints _ _ low (omega (arith, ints, clamps))
standing_ints Above a b h = let low = h.0.0 in let high = h.1.1 in between_ints _ _ (omega (arith, ints, clamps)) high
standing_ints AtLeast a b h = let low = h.0.0 in let high = h.1.1 in between_ints _ _ (omega (arith, ints, clamps)) high

module _ (a b : Bounds) (ha : HasIntEnds a) (hb : HasIntEnds b) where
  related_ints : (relation : Relation) (way : Way) → IfIntCase (related relation way a b)
  related_ints relation way =
      bare_ints way (standing_so relation a b) (standing_so (exchanged relation) b a) (row_of relation ∷ [])
      (standing_ints relation a b ha) (standing_ints (exchanged relation) b a hb)

  both : (first second : Option IntCase) → IfIntCase first → IfIntCase second → AreIntCases (both_of first second)
  both first second h i = more first _ h (more second [] i tt)

  between : (condition : Cond) → AreIntCases (cases_between condition a b)
  between Eq = more _ _ (related_ints Equal _) (both _ _ (related_ints Below _) (related_ints Above _))
  between Ne = more _ _ (related_ints Below _) (both _ _ (related_ints Above _) (related_ints Equal _))
  between Lt = both _ _ (related_ints Below _) (related_ints AtLeast _)
  between Ge = both _ _ (related_ints AtLeast _) (related_ints Below _)
  between Gt = both _ _ (related_ints Above _) (related_ints AtMost _)
  between Le = both _ _ (related_ints AtMost _) (related_ints Above _)

  compared_ints : (condition : Cond) (same : Bool) → AreIntCases (compared condition same a b)
  compared_ints condition same =
      if_either AreIntCases same (cases_of_one condition a b) (cases_between condition a b)
      (λ e. (record { left = ha; right = hb; result = tt }, tt)) (λ e. between condition)

pub branches_stay : BranchesStayInts
branches_stay a b ha hb = record { compared = compared_ints a b ha hb; related = λ relation way. (related_ints a b ha hb relation way).is }
