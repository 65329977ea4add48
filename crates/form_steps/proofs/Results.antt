-- The cases of operators have results, and those of comparisons have rows without one.
use Rattle.std.proofs.Common.{◌≡◌, ◌==◌, ◌-◌, ◌^◌, ℕ, ℤ, pos, negsuc, ◌+ℤ◌, ◌-ℤ◌, ◌*ℤ◌, Bool, true, false, if◌then◌else◌, cond}
use Rattle.std.proofs.Common.{◌&&◌, List, [], ◌∷◌, Option, Some, None, refl, sym, subst}
use Rattle.std.specs.Prelude.{int_le}
use Rattle.std.specs.Int.{int_min, int_max, int_wrap, int_bit_and, int_bit_or, int_bit_xor, w32}
use Rattle.std.specs.List.{AllByRecursion, cons_option}
use Rattle.std.specs.Option.{IfSome, option_and_then}
use Rattle.std.proofs.lemmas.Bool.{false≢true}
use Rattle.lin_core.specs.Intervals.{Bounds, interval_of}
use Rattle.jvm_values.specs.declared.ints.Cond.{Cond}
use Rattle.jvm_values.specs.declared.ints.Cond.TheVariants.{Eq, Ne, Lt, Ge, Gt, Le}
use Rattle.jvm_values.specs.declared.ints.IntOp.{IntOp}
use Rattle.jvm_values.specs.declared.ints.IntOp.TheVariants.{Add, Sub, Mul, Div, Rem, Shl, Shr, Ushr, And, Or, Xor, Narrow}
use Rattle.jvm_values.specs.Ints.{int_result, shift_count, int_shifted_left, int_shifted_right, int_shifted_right_with_zeros}
use Rattle.abs_ints.specs.Bits.{is_natural, below_left, below_right, and_case, and_cases, ones_over, or_case, or_cases, xor_case}
use Rattle.abs_ints.specs.Bits.{xor_cases}
use Rattle.abs_ints.specs.Cases.{at_least_zero, is_zero, case_between, case_with, inside}
use Rattle.abs_ints.specs.Comparing.{standing_so, exchanged, row_of, related, both_of, cases_between, compared}
use Rattle.abs_ints.specs.Operating.{single_case, single_or, operated}
use Rattle.abs_ints.specs.IntIntervals.{all_ints, just, is_single, meet_of, sum_of, difference_of, multiples_of, hull_of, ints_or_all}
use Rattle.abs_ints.specs.Divisions.{dividend_rows}
use Rattle.abs_ints.specs.Products.{product_rows, product_cases}
use Rattle.abs_ints.specs.Shifts.{power_of, shifted_left_rows, shift_left_cases, shifted_right_by, shifted_right_rows}
use Rattle.abs_ints.specs.Shifts.{shifted_right, shift_right_case, shift_right_cases, zeros_case, shift_zeros_case}
use Rattle.abs_ints.specs.Shifts.{shift_zeros_cases}
use Rattle.abs_ints.specs.Sums.{reached_by, wrapped_by, sum_row, difference_row, sum_case, difference_case}
use Rattle.abs_ints.specs.declared.cases.IntCase.{IntCase}
use Rattle.abs_ints.specs.declared.cases.ShortRow.{ShortRow}
use Rattle.abs_ints.specs.declared.cases.Way.{Way}
use Rattle.abs_ints.specs.declared.cases.Way.TheVariants.{Inside, Over, Under, Taken, Next}
use Rattle.abs_ints.specs.declared.relations.Relation.{Relation}
use Rattle.abs_ints.specs.declared.relations.Relation.TheVariants.{Equal, Below, AtMost, Above, AtLeast}
use Rattle.abs_ints.proofs.OperatorCases.{if_either}

-- ---- cases with results

-- an operator of two ints that gives a result of any
abbrev pub gives_result : IntOp → Bool
gives_result Div = false
gives_result Rem = false
gives_result (Narrow kind) = false
gives_result _ = true

pub record HasResult (case : IntCase) : Type 0 where
  pub interval : Bounds
  pub is : case.result ≡ Some interval

abbrev HaveResults : List IntCase → Type 0
HaveResults cases = AllByRecursion HasResult cases

abbrev IfHas : Option IntCase → Type 0
IfHas found = IfSome found HasResult

with_result : (way : Way) (left right result : Option Bounds) (rows : List ShortRow) → IfHas (case_with way left right result rows)
with_result way None right result rows = tt
with_result way (Some a) None result rows = tt
with_result way (Some a) (Some b) None rows = tt
with_result way (Some a) (Some b) (Some r) rows = record { interval = r; is = refl }

inside_result : (a b : Bounds) (result : Option Bounds) (rows : List ShortRow) → IfHas (inside a b result rows)
inside_result a b result rows = with_result Inside (Some a) (Some b) result rows

then_result : (found : Option Bounds) (f : Bounds → Option IntCase) → ((exact : Bounds) → IfHas (f exact))
    → IfHas (option_and_then f found)
then_result None f h = tt
then_result (Some exact) f h = h exact

more_results : (found : Option IntCase) (cases : List IntCase) → IfHas found → HaveResults cases → HaveResults (cons_option found cases)
more_results None cases i h = h
more_results (Some case) cases i h = (i, h)

either_result : (test : Bool) (x y : Option IntCase) → IfHas x → IfHas y → IfHas (cond test x y)
either_result true x y a b = a
either_result false x y a b = b

sum_result : (way : Way) (a b : Bounds) → IfHas (sum_case way a b)
sum_result way a b = then_result (meet_of (reached_by way) (sum_of a b))
    (λ exact. case_with way (meet_of a (difference_of exact b)) (meet_of b (difference_of exact a))
    (meet_of all_ints (wrapped_by way exact)) (sum_row way ∷ []))
    (λ exact. with_result way (meet_of a (difference_of exact b)) (meet_of b (difference_of exact a))
    (meet_of all_ints (wrapped_by way exact)) (sum_row way ∷ []))

difference_result : (way : Way) (a b : Bounds) → IfHas (difference_case way a b)
difference_result way a b = then_result (meet_of (reached_by way) (difference_of a b))
    (λ exact. case_with way (meet_of a (sum_of exact b)) (meet_of b (difference_of a exact))
    (meet_of all_ints (wrapped_by way exact)) (difference_row way ∷ []))
    (λ exact. with_result way (meet_of a (sum_of exact b)) (meet_of b (difference_of a exact))
    (meet_of all_ints (wrapped_by way exact)) (difference_row way ∷ []))

three_results : (x y z : Option IntCase) → IfHas x → IfHas y → IfHas z → HaveResults (cons_option x (cons_option y (cons_option z [])))
three_results x y z a b c = more_results x (cons_option y (cons_option z [])) a
    (more_results y (cons_option z []) b (more_results z [] c tt))

single_result : (op : IntOp) (a b : Bounds) (cases : List IntCase) → ((m n : ℤ) → (r : ℤ) × (int_result op m n ≡ Some r))
    → HaveResults cases → HaveResults (single_or op a b cases)
single_result op a b cases given h =
    if_either HaveResults (is_single a && is_single b) (cons_option (single_case a b (int_result op a.lo b.lo)) []) cases (λ t.
    let r = given a.lo b.lo in
    more_results (single_case a b (int_result op a.lo b.lo)) []
    (subst (λ (found : Option ℤ). IfHas (single_case a b found)) (sym r.1) (inside_result a b (Some (just r.0)) [])) tt) (λ f. h)

only_result : (found : Option IntCase) → IfHas found → HaveResults (cons_option found [])
only_result found h = more_results found [] h tt

either_inside : (test : Bool) (a b : Bounds) (one other : Option Bounds) (rows more : List ShortRow)
    → IfHas (cond test (inside a b one rows) (inside a b other more))
either_inside test a b one other rows more = either_result test (inside a b one rows) (inside a b other more)
    (inside_result a b one rows) (inside_result a b other more)

shift_right_result : (a b : Bounds) → IfHas (shift_right_case a b)
shift_right_result a b = either_inside (is_single b) a b (shifted_right_by a (shift_count b.lo)) (shifted_right a)
    (shifted_right_rows (power_of b)) (dividend_rows a)

count_result : (a b : Bounds) (count : ℕ) → IfHas (zeros_case a b count)
count_result a b count = either_inside (count == 0) a b (Some a) (interval_of (pos 0) (pos (2 ^ (32 - count)) -ℤ pos 1))
    (is_zero (negsuc 0) (pos 0) (pos 1) (pos 0) ∷ []) []

zeros_result : (a b : Bounds) → IfHas (shift_zeros_case a b)
zeros_result a b =
    either_result (int_le (pos 0) a.lo) (shift_right_case a b)
    (if is_single b then zeros_case a b (shift_count b.lo) else inside a b (Some all_ints) []) (shift_right_result a b)
    (either_result (is_single b) (zeros_case a b (shift_count b.lo)) (inside a b (Some all_ints) [])
    (count_result a b (shift_count b.lo)) (inside_result a b (Some all_ints) []))

and_result : (a b : Bounds) → IfHas (and_case a b)
and_result a b =
    let both = interval_of (pos 0) (int_min a.hi b.hi) in
    either_result (is_natural a && is_natural b) (inside a b both (below_left ∷ below_right ∷ []))
    (if is_natural a then inside a b (interval_of (pos 0) a.hi) (below_left ∷ []) else if is_natural b then inside a b
    (interval_of (pos 0) b.hi) (below_right ∷ []) else inside a b (Some all_ints) [])
    (inside_result a b both (below_left ∷ below_right ∷ []))
    (either_result (is_natural a) (inside a b (interval_of (pos 0) a.hi) (below_left ∷ []))
    (if is_natural b then inside a b (interval_of (pos 0) b.hi) (below_right ∷ []) else inside a b (Some all_ints) [])
    (inside_result a b (interval_of (pos 0) a.hi) (below_left ∷ []))
    (either_inside (is_natural b) a b (interval_of (pos 0) b.hi) (Some all_ints) (below_right ∷ []) []))

gives : (op : IntOp) (m n : ℤ) → gives_result op ≡ true → (r : ℤ) × (int_result op m n ≡ Some r)
gives Add m n e = (int_wrap w32 (m +ℤ n), refl)
gives Sub m n e = (int_wrap w32 (m -ℤ n), refl)
gives Mul m n e = (int_wrap w32 (m *ℤ n), refl)
gives Div m n e = absurd (false≢true e)
gives Rem m n e = absurd (false≢true e)
gives Shl m n e = (int_shifted_left m n, refl)
gives Shr m n e = (int_shifted_right m n, refl)
gives Ushr m n e = (int_shifted_right_with_zeros m n, refl)
gives And m n e = (int_bit_and w32 m n, refl)
gives Or m n e = (int_bit_or w32 m n, refl)
gives Xor m n e = (int_bit_xor w32 m n, refl)
gives (Narrow kind) m n e = absurd (false≢true e)

pub results : (op : IntOp) (a b : Bounds) → gives_result op ≡ true → HaveResults (operated op a b)
results Add a b e = three_results (sum_case Inside a b) (sum_case Over a b) (sum_case Under a b) (sum_result Inside a b)
    (sum_result Over a b) (sum_result Under a b)
results Sub a b e = three_results (difference_case Inside a b) (difference_case Over a b) (difference_case Under a b)
    (difference_result Inside a b) (difference_result Over a b) (difference_result Under a b)
results Mul a b e = single_result Mul a b (product_cases a b) (λ m n. gives Mul m n refl)
    (more_results (inside a b (ints_or_all (hull_of a b)) (product_rows a b)) []
    (inside_result a b (ints_or_all (hull_of a b)) (product_rows a b)) tt)
results Div a b e = absurd (false≢true e)
results Rem a b e = absurd (false≢true e)
results Shl a b e = single_result Shl a b (shift_left_cases a b) (λ m n. gives Shl m n refl)
    (only_result (if is_single b then inside a b (ints_or_all (multiples_of (power_of b) a)) (shifted_left_rows a b) else inside a b
    (Some all_ints) []) (either_inside (is_single b) a b (ints_or_all (multiples_of (power_of b) a)) (Some all_ints)
    (shifted_left_rows a b) []))
results Shr a b e = single_result Shr a b (shift_right_cases a b) (λ m n. gives Shr m n refl)
    (only_result (shift_right_case a b) (shift_right_result a b))
results Ushr a b e = single_result Ushr a b (shift_zeros_cases a b) (λ m n. gives Ushr m n refl)
    (only_result (shift_zeros_case a b) (zeros_result a b))
results And a b e = single_result And a b (and_cases a b) (λ m n. gives And m n refl) (only_result (and_case a b) (and_result a b))
results Or a b e = single_result Or a b (or_cases a b) (λ m n. gives Or m n refl)
    (only_result (or_case a b)
    (either_inside (is_natural a && is_natural b) a b (meet_of all_ints (record { lo = int_max a.lo b.lo; hi = ones_over a b }))
    (Some all_ints) (at_least_zero (negsuc 0) (pos 0) (pos 1) (pos 0) ∷ at_least_zero (pos 0) (negsuc 0) (pos 1) (pos 0) ∷ []) []))
results Xor a b e = single_result Xor a b (xor_cases a b) (λ m n. gives Xor m n refl)
    (only_result (xor_case a b)
    (either_inside (is_natural a && is_natural b) a b (meet_of all_ints (record { lo = pos 0; hi = ones_over a b }))
    (Some all_ints) [] []))
results (Narrow kind) a b e = absurd (false≢true e)

-- ---- rows without results

abbrev pub NamesNone : List ShortRow → Type 0
NamesNone rows = AllByRecursion (λ (row : ShortRow). row.result ≡ pos 0) rows

abbrev pub AreRowsOfTwo : List IntCase → Type 0
AreRowsOfTwo cases = AllByRecursion (λ (case : IntCase). NamesNone case.rows) cases

row_names_none : (relation : Relation) → (row_of relation).result ≡ pos 0
row_names_none Equal = refl
row_names_none Below = refl
row_names_none AtMost = refl
row_names_none Above = refl
row_names_none AtLeast = refl

between_none : (way : Way) (left right : Option Bounds) (rows : List ShortRow) → NamesNone rows
    → IfSome (case_between way left right rows) (λ (case : IntCase). NamesNone case.rows)
between_none way None right rows h = tt
between_none way (Some a) None rows h = tt
between_none way (Some a) (Some b) rows h = h

related_none : (relation : Relation) (way : Way) (a b : Bounds)
    → IfSome (related relation way a b) (λ (case : IntCase). NamesNone case.rows)
related_none relation way a b = between_none way (standing_so relation a b) (standing_so (exchanged relation) b a)
    (row_of relation ∷ []) (row_names_none relation, tt)

more_none : (found : Option IntCase) (cases : List IntCase) → IfSome found (λ (case : IntCase). NamesNone case.rows)
    → AreRowsOfTwo cases → AreRowsOfTwo (cons_option found cases)
more_none None cases i h = h
more_none (Some case) cases i h = (i, h)

two_none : (x y : Relation) (a b : Bounds) → AreRowsOfTwo (both_of (related x Taken a b) (related y Next a b))
two_none x y a b = more_none (related x Taken a b) (cons_option (related y Next a b) []) (related_none x Taken a b)
    (more_none (related y Next a b) [] (related_none y Next a b) tt)

three_none : (x y z : Option IntCase) → IfSome x (λ (case : IntCase). NamesNone case.rows)
    → IfSome y (λ (case : IntCase). NamesNone case.rows) → IfSome z (λ (case : IntCase). NamesNone case.rows)
    → AreRowsOfTwo (cons_option x (both_of y z))
three_none x y z a b c = more_none x (both_of y z) a (more_none y (cons_option z []) b (more_none z [] c tt))

between_rows : (condition : Cond) (a b : Bounds) → AreRowsOfTwo (cases_between condition a b)
between_rows Eq a b = three_none (related Equal Taken a b) (related Below Next a b) (related Above Next a b)
    (related_none Equal Taken a b) (related_none Below Next a b) (related_none Above Next a b)
between_rows Ne a b = three_none (related Below Taken a b) (related Above Taken a b) (related Equal Next a b)
    (related_none Below Taken a b) (related_none Above Taken a b) (related_none Equal Next a b)
between_rows Lt a b = two_none Below AtLeast a b
between_rows Ge a b = two_none AtLeast Below a b
between_rows Gt a b = two_none Above AtMost a b
between_rows Le a b = two_none AtMost Above a b

pub rows_of_two : (condition : Cond) (same : Bool) (a b : Bounds) → AreRowsOfTwo (compared condition same a b)
rows_of_two condition true a b = (tt, tt)
rows_of_two condition false a b = between_rows condition a b
