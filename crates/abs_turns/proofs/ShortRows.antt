-- The rows of an operator's cases are short over the operands that it takes.
use Rattle.std.proofs.Common.{◌≡◌, ℕ, ℤ, Bool, true, false, ◌&&◌, List, [], ◌∷◌, Option, Some, None, refl, ap, ◌∙◌}
use Rattle.std.specs.List.{cons_option}
use Rattle.std.specs.Option.{IfSome, option_and_then}
use Rattle.std.proofs.lemmas.Bool.{false≢true}
use Rattle.abs_cells.specs.lin_core.Intervals.{Bounds}
use Rattle.jvm_values.specs.declared.ints.IntOp.{IntOp}
use Rattle.jvm_values.specs.declared.ints.IntOp.TheVariants.{Add, Sub, Mul, Div, Rem, Shl, Shr, Ushr, And, Or, Xor, Narrow}
use Rattle.abs_ints.specs.Cases.{case_with}
use Rattle.abs_ints.specs.Operating.{operated}
use Rattle.abs_ints.specs.IntIntervals.{all_ints, meet_of, sum_of, difference_of}
use Rattle.abs_ints.specs.Sums.{reached_by, wrapped_by, sum_row, difference_row, sum_case, difference_case, sum_cases, difference_cases}
use Rattle.abs_ints.specs.declared.cases.IntCase.{IntCase}
use Rattle.abs_ints.specs.declared.cases.ShortRow.{ShortRow}
use Rattle.abs_ints.specs.declared.cases.Way.{Way}
use Rattle.abs_ints.specs.declared.cases.Way.TheVariants.{Inside, Over, Under, Zero, Taken, Next}
use Rattle.abs_turns.specs.Turns.{Operand, known, id}
use Rattle.abs_turns.specs.ShortRows.{is_small_row, are_short, have_short_rows, is_sum_or_difference, takes_operands}

-- ---- rows over two ids

ids_short : (x y : ℕ) (rows : List ShortRow) → are_short (id x) (id y) rows ≡ true
ids_short x y [] = refl
ids_short x y (row ∷ rows) = ids_short x y rows

cases_of_ids : (x y : ℕ) (cases : List IntCase) → have_short_rows (id x) (id y) cases ≡ true
cases_of_ids x y [] = refl
cases_of_ids x y (case ∷ cases) = ap (λ (b : Bool). b && have_short_rows (id x) (id y) cases) (ids_short x y case.rows)
    ∙ cases_of_ids x y cases

-- ---- sums and differences

abbrev TakesSmall : Operand → Operand → Type 0
TakesSmall left right = (row : ShortRow) → is_small_row row ≡ true → are_short left right (row ∷ []) ≡ true

right_known : (x : ℕ) (n : ℤ) → TakesSmall (id x) (known n)
right_known x n row e = ap (λ (b : Bool). b && true) e

left_known : (m : ℤ) (y : ℕ) → TakesSmall (known m) (id y)
left_known m y row e = ap (λ (b : Bool). b && true) e

sum_small : (way : Way) → is_small_row (sum_row way) ≡ true
sum_small Inside = refl
sum_small Over = refl
sum_small Under = refl
sum_small Zero = refl
sum_small Taken = refl
sum_small Next = refl

difference_small : (way : Way) → is_small_row (difference_row way) ≡ true
difference_small Inside = refl
difference_small Over = refl
difference_small Under = refl
difference_small Zero = refl
difference_small Taken = refl
difference_small Next = refl

abbrev IsShort : Operand → Operand → Option IntCase → Type 0
IsShort left right found = IfSome found (λ (case : IntCase). are_short left right case.rows ≡ true)

with_short : (l r : Operand) (way : Way) (left right result : Option Bounds) (rows : List ShortRow) → are_short l r rows ≡ true
    → IsShort l r (case_with way left right result rows)
with_short l r way None right result rows e = tt
with_short l r way (Some a) None result rows e = tt
with_short l r way (Some a) (Some b) None rows e = tt
with_short l r way (Some a) (Some b) (Some c) rows e = e

then_short : (l r : Operand) (found : Option Bounds) (f : Bounds → Option IntCase) → ((exact : Bounds) → IsShort l r (f exact))
    → IsShort l r (option_and_then f found)
then_short l r None f h = tt
then_short l r (Some exact) f h = h exact

sum_short : (l r : Operand) → TakesSmall l r → (way : Way) (a b : Bounds) → IsShort l r (sum_case way a b)
sum_short l r small way a b =
    then_short l r (meet_of (reached_by way) (sum_of a b))
    (λ exact. case_with way (meet_of a (difference_of exact b)) (meet_of b (difference_of exact a))
    (meet_of all_ints (wrapped_by way exact)) (sum_row way ∷ [])) (λ exact.
    with_short l r way (meet_of a (difference_of exact b)) (meet_of b (difference_of exact a))
    (meet_of all_ints (wrapped_by way exact)) (sum_row way ∷ []) (small (sum_row way) (sum_small way)))

difference_short : (l r : Operand) → TakesSmall l r → (way : Way) (a b : Bounds) → IsShort l r (difference_case way a b)
difference_short l r small way a b =
    then_short l r (meet_of (reached_by way) (difference_of a b))
    (λ exact. case_with way (meet_of a (sum_of exact b)) (meet_of b (difference_of a exact))
    (meet_of all_ints (wrapped_by way exact)) (difference_row way ∷ [])) (λ exact.
    with_short l r way (meet_of a (sum_of exact b)) (meet_of b (difference_of a exact)) (meet_of all_ints (wrapped_by way exact))
    (difference_row way ∷ []) (small (difference_row way) (difference_small way)))

more_short : (l r : Operand) (found : Option IntCase) (cases : List IntCase) → IsShort l r found → have_short_rows l r cases ≡ true
    → have_short_rows l r (cons_option found cases) ≡ true
more_short l r None cases s h = h
more_short l r (Some case) cases s h = ap (λ (b : Bool). b && have_short_rows l r cases) s ∙ h

sums_short : (l r : Operand) → TakesSmall l r → (a b : Bounds) → have_short_rows l r (sum_cases a b) ≡ true
sums_short l r small a b =
    more_short l r (sum_case Inside a b) (cons_option (sum_case Over a b) (cons_option (sum_case Under a b) []))
    (sum_short l r small Inside a b)
    (more_short l r (sum_case Over a b) (cons_option (sum_case Under a b) []) (sum_short l r small Over a b)
    (more_short l r (sum_case Under a b) [] (sum_short l r small Under a b) refl))

differences_short : (l r : Operand) → TakesSmall l r → (a b : Bounds) → have_short_rows l r (difference_cases a b) ≡ true
differences_short l r small a b =
    more_short l r (difference_case Inside a b)
    (cons_option (difference_case Over a b) (cons_option (difference_case Under a b) [])) (difference_short l r small Inside a b)
    (more_short l r (difference_case Over a b) (cons_option (difference_case Under a b) []) (difference_short l r small Over a b)
    (more_short l r (difference_case Under a b) [] (difference_short l r small Under a b) refl))

operated_short : (l r : Operand) → TakesSmall l r → (op : IntOp) (a b : Bounds) → is_sum_or_difference op ≡ true
    → have_short_rows l r (operated op a b) ≡ true
operated_short l r small Add a b e = sums_short l r small a b
operated_short l r small Sub a b e = differences_short l r small a b
operated_short l r small Mul a b e = absurd (false≢true e)
operated_short l r small Div a b e = absurd (false≢true e)
operated_short l r small Rem a b e = absurd (false≢true e)
operated_short l r small Shl a b e = absurd (false≢true e)
operated_short l r small Shr a b e = absurd (false≢true e)
operated_short l r small Ushr a b e = absurd (false≢true e)
operated_short l r small And a b e = absurd (false≢true e)
operated_short l r small Or a b e = absurd (false≢true e)
operated_short l r small Xor a b e = absurd (false≢true e)
operated_short l r small (Narrow kind) a b e = absurd (false≢true e)

pub taken_short : (left right : Operand) (op : IntOp) (a b : Bounds) → takes_operands op left right ≡ true
    → have_short_rows left right (operated op a b) ≡ true
taken_short (id x) (id y) op a b e = cases_of_ids x y (operated op a b)
taken_short (id x) (known n) op a b e = operated_short (id x) (known n) (right_known x n) op a b e
taken_short (known m) (id y) op a b e = operated_short (known m) (id y) (left_known m y) op a b e
taken_short (known m) (known n) op a b e = absurd (false≢true e)
