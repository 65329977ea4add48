-- A combination is at least 0 wherever its rows hold.
use Rattle.std.proofs.Common.{◌≡◌, ◌≢◌, ℕ, zero, suc, ◌+◌, ◌≤◌, ◌<◌, Bool, true, false, cond, eqb, List, [], ◌∷◌, length, get_or, ℤ}
use Rattle.std.proofs.Common.{pos, ◌+ℤ◌, ◌*ℤ◌, ◌≤ℤ◌, Option, Some, None, subst, ap, arith, refl, ◌∙◌, sym}
use Rattle.std.specs.Prelude.{slice_get}
use Rattle.std.proofs.lemmas.Int.{ints}
use Rattle.std.proofs.lemmas.Bool.{eqb-true, eq-eqb}
use Rattle.std.proofs.lemmas.Bool.Decides.{nat_tests}
use Rattle.std.proofs.lemmas.Option.{get_or_from_slice_get, slice_get_within}
use Rattle.list_views.proofs.Orders.{zero_times}
use Rattle.lin_core.specs.declared.rows.RowKind.{RowKind}
use Rattle.lin_core.specs.declared.rows.RowKind.TheVariants.{AtLeastZero, IsZero}
use Rattle.lin_core.specs.Combination.{number_of, sum_of, summed_coefficient, IsSumOf, IsAllowedAt, AllAllowed}
use Rattle.lin_core.specs.Rows.{Row, coefficient_of, value_of_terms, value_of_row, IsOfKind, Holds, AllHold, RiseFrom, Rise, AllRise}
use Rattle.lin_core.specs.Sums.{Sum, value_from, value_of_sum}
use Rattle.list_views.proofs.Ring.{times_plus, plus_times, times_assoc}
use Rattle.lin_core.proofs.Signs.{mul-zero_ℤ, mul_nonneg_ℤ}

-- the sum of coefficient times number over the n variables from k on
abbrev pub span : (ℕ → ℤ) → (ℕ → ℤ) → ℕ → ℕ → ℤ
span numbers f k zero = pos 0
span numbers f k (suc n) = f k *ℤ numbers k +ℤ span numbers f (suc k) n

pub span_same : (numbers f g : ℕ → ℤ) → ((x : ℕ) → f x ≡ g x) → (k n : ℕ) → span numbers f k n ≡ span numbers g k n
span_same numbers f g e k zero = refl
span_same numbers f g e k (suc n) =
    let head = ap (λ (z : ℤ). z *ℤ numbers k) (e k) in
    let tail = span_same numbers f g e (suc k) n in
    cc

pub span_zero : (numbers : ℕ → ℤ) (k n : ℕ) → span numbers (λ x. pos 0) k n ≡ pos 0
span_zero numbers k zero = refl
span_zero numbers k (suc n) = omega (arith, ints, zero_times (numbers k), span_zero numbers (suc k) n)

add_both : (a b c d p q : ℤ) → p ≡ a +ℤ b → q ≡ c +ℤ d → p +ℤ q ≡ (a +ℤ c) +ℤ (b +ℤ d)
add_both a b c d p q e h = omega (arith, ints)

pub span_add : (numbers f g : ℕ → ℤ) (k n : ℕ) → span numbers (λ x. f x +ℤ g x) k n ≡ span numbers f k n +ℤ span numbers g k n
span_add numbers f g k zero = refl
span_add numbers f g k (suc n) = add_both (f k *ℤ numbers k) (g k *ℤ numbers k) (span numbers f (suc k) n)
    (span numbers g (suc k) n) _ _ (plus_times (f k) (g k) (numbers k)) (span_add numbers f g (suc k) n)

mul_both : (by a b p q : ℤ) → p ≡ by *ℤ a → q ≡ by *ℤ b → p +ℤ q ≡ by *ℤ (a +ℤ b)
mul_both by a b p q e h = rw (e, h) (sym (times_plus by a b))

pub span_mul : (numbers : ℕ → ℤ) (by : ℤ) (f : ℕ → ℤ) (k n : ℕ) → span numbers (λ x. by *ℤ f x) k n ≡ by *ℤ span numbers f k n
span_mul numbers by f k zero = sym (mul-zero_ℤ by)
span_mul numbers by f k (suc n) = mul_both by _ _ _ _ (times_assoc by (f k) (numbers k)) (span_mul numbers by f (suc k) n)

-- the coefficient of one variable alone
abbrev only : ℕ → ℤ → ℕ → ℤ
only y v x = cond (eqb y x) v (pos 0)

only_off : (y x : ℕ) (v : ℤ) (t : Bool) → eqb y x ≡ t → y ≢ x → cond t v (pos 0) ≡ pos 0
only_off y x v true e far = absurd (far (eqb-true y x e))
only_off y x v false e far = refl

no_head : (a b c d : ℤ) → a ≡ pos 0 → b ≡ d → a *ℤ c +ℤ b ≡ d
no_head a b c d e h = rw e (omega (arith, ints, zero_times c))

span_past : (numbers : ℕ → ℤ) (y : ℕ) (v : ℤ) (k n : ℕ) → y < k → span numbers (only y v) k n ≡ pos 0
span_past numbers y v k zero h = refl
span_past numbers y v k (suc n) h = no_head (only y v k) _ (numbers k) (pos 0) (only_off y k v (eqb y k) refl (omega arith))
    (span_past numbers y v (suc k) n (omega arith))

plus_none : (a b : ℤ) → b ≡ pos 0 → a +ℤ b ≡ a
plus_none a b h = omega (arith, ints)

span_only_cases : (numbers : ℕ → ℤ) (y : ℕ) (v : ℤ) (k n : ℕ) (t : Bool) → eqb y k ≡ t
    → (suc k ≤ y → span numbers (only y v) (suc k) n ≡ v *ℤ numbers y) → k ≤ y
    → cond t v (pos 0) *ℤ numbers k +ℤ span numbers (only y v) (suc k) n ≡ v *ℤ numbers y
span_only_cases numbers y v k n true e more h =
    let same = eqb-true y k e in
    plus_none (v *ℤ numbers k) _ (span_past numbers y v (suc k) n (omega arith)) ∙ ap (λ (z : ℕ). v *ℤ numbers z) (sym same)
span_only_cases numbers y v k n false e more h = no_head (pos 0) _ (numbers k) (v *ℤ numbers y) refl (more (grind (arith, nat_tests)))

pub span_only : (numbers : ℕ → ℤ) (y : ℕ) (v : ℤ) (k n : ℕ) → k ≤ y → y < k + n → span numbers (only y v) k n ≡ v *ℤ numbers y
span_only numbers y v k zero low high = absurd (omega arith)
span_only numbers y v k (suc n) low high = span_only_cases numbers y v k n (eqb y k) refl
    (λ h. span_only numbers y v (suc k) n h (omega arith)) low

-- over enough variables the coefficients of terms give the terms' value
pub span_terms : (numbers : ℕ → ℤ) (terms : List (ℕ × ℤ)) (low end : ℕ) → RiseFrom low end terms
    → span numbers (λ x. coefficient_of x terms) 0 end ≡ value_of_terms numbers terms
span_terms numbers [] low end h = span_zero numbers 0 end
span_terms numbers (term ∷ rest) low end h =
    let head = span_only numbers term.0 term.1 0 end (omega arith) (omega (arith, h.1)) in
    let tail = span_terms numbers rest (suc term.0) end h.2 in
    span_add numbers (only term.0 term.1) (λ x. coefficient_of x rest) 0 end
    ∙ ap (λ (z : ℤ). z +ℤ span numbers (λ x. coefficient_of x rest) 0 end) head ∙ ap (λ (z : ℤ). term.1 *ℤ numbers term.0 +ℤ z) tail

-- a number that no variable of the terms reaches
abbrev pub bound_of : List (ℕ × ℤ) → ℕ
bound_of [] = 0
bound_of (term ∷ rest) = suc term.0 + bound_of rest

-- the same for terms in any order
pub span_all : (numbers : ℕ → ℤ) (terms : List (ℕ × ℤ)) (end : ℕ) → bound_of terms ≤ end
    → span numbers (λ x. coefficient_of x terms) 0 end ≡ value_of_terms numbers terms
span_all numbers [] end h = span_zero numbers 0 end
span_all numbers (term ∷ rest) end h =
    let head = span_only numbers term.0 term.1 0 end (omega arith) (omega arith) in
    let tail = span_all numbers rest end (omega arith) in
    span_add numbers (only term.0 term.1) (λ x. coefficient_of x rest) 0 end
    ∙ ap (λ (z : ℤ). z +ℤ span numbers (λ x. coefficient_of x rest) 0 end) head ∙ ap (λ (z : ℤ). term.1 *ℤ numbers term.0 +ℤ z) tail

rise_wider : (terms : List (ℕ × ℤ)) (low end more : ℕ) → RiseFrom low end terms → RiseFrom low (end + more) terms
rise_wider [] low end more h = tt
rise_wider (term ∷ rest) low end more h = (h.0, omega (arith, h.1), rise_wider rest (suc term.0) end more h.2)

pub all_wider : (rows : List Row) (end more : ℕ) → AllRise end rows → AllRise (end + more) rows
all_wider rows end more h index d inside = rise_wider (get_or rows index d).terms 0 end more (h index d inside)

-- a row that is found is one of the rows
found_rises : (end : ℕ) (rows : List Row) (index : ℕ) (row : Row) → AllRise end rows → slice_get rows index ≡ Some row → Rise end row.terms
found_rises end rows index row rise found = subst (λ (r : Row). Rise end r.terms) (get_or_from_slice_get rows index row row found)
    (rise index row (slice_get_within rows index row found))

found_holds : (numbers : ℕ → ℤ) (rows : List Row) (index : ℕ) (row : Row) → AllHold numbers rows → slice_get rows index ≡ Some row
    → Holds numbers row
found_holds numbers rows index row hold found = subst (λ (r : Row). Holds numbers r)
    (get_or_from_slice_get rows index row row found) (hold index row (slice_get_within rows index row found))

span_found : (numbers : ℕ → ℤ) (end : ℕ) (found : Option Row) → ((row : Row) → found ≡ Some row → Rise end row.terms)
    → span numbers (λ x. number_of (λ row. coefficient_of x row.terms) found) 0 end ≡ number_of
    (λ row. value_of_terms numbers row.terms) found
span_found numbers end None h = span_zero numbers 0 end
span_found numbers end (Some row) h = span_terms numbers row.terms 0 end (h row refl)

-- the value of the summed coefficients is the sum of the rows' values
pub span_summed : (numbers : ℕ → ℤ) (end : ℕ) (rows : List Row) (entries : List (ℕ × ℤ)) → AllRise end rows
    → span numbers (summed_coefficient rows entries) 0 end ≡ sum_of (λ row. value_of_terms numbers row.terms) rows entries
span_summed numbers end rows [] rise = span_zero numbers 0 end
span_summed numbers end rows (entry ∷ rest) rise =
    let found = span_found numbers end (slice_get rows entry.0) (λ row e. found_rises end rows entry.0 row rise e) in
    let head = span_mul numbers entry.1 (λ x. number_of (λ row. coefficient_of x row.terms) (slice_get rows entry.0)) 0 end
    ∙ ap (λ (z : ℤ). entry.1 *ℤ z) found in
    let tail = span_summed numbers end rows rest rise in
    span_add numbers (λ x. entry.1 *ℤ number_of (λ row. coefficient_of x row.terms) (slice_get rows entry.0))
    (summed_coefficient rows rest) 0 end ∙ ap (λ (z : ℤ). z +ℤ span numbers (summed_coefficient rows rest) 0 end) head
    ∙ ap (λ (z : ℤ). entry.1 *ℤ number_of (λ row. value_of_terms numbers row.terms) (slice_get rows entry.0) +ℤ z) tail

-- a sum of sums
found_add : (f g : Row → ℤ) (found : Option Row) → number_of (λ row. f row +ℤ g row) found ≡ number_of f found +ℤ number_of g found
found_add f g None = refl
found_add f g (Some row) = refl

four : (by a b both s t whole : ℤ) → both ≡ a +ℤ b → whole ≡ s +ℤ t → by *ℤ both +ℤ whole ≡ (by *ℤ a +ℤ s) +ℤ (by *ℤ b +ℤ t)
four by a b both s t whole e h = rw e (omega (arith, ints, times_plus by a b))

pub sum_of_add : (f g : Row → ℤ) (rows : List Row) (entries : List (ℕ × ℤ))
    → sum_of (λ row. f row +ℤ g row) rows entries ≡ sum_of f rows entries +ℤ sum_of g rows entries
sum_of_add f g rows [] = refl
sum_of_add f g rows (entry ∷ rest) = four entry.1 (number_of f (slice_get rows entry.0)) (number_of g (slice_get rows entry.0)) _
    (sum_of f rows rest) (sum_of g rows rest) _ (found_add f g (slice_get rows entry.0)) (sum_of_add f g rows rest)

-- the value of a sum is that of its coefficients
pub value_span : (numbers : ℕ → ℤ) (f : ℕ → ℤ) (coefficients : List ℤ) (k : ℕ)
    → ((j : ℕ) → get_or coefficients j (pos 0) ≡ f (k + j)) → value_from numbers k coefficients ≡ span numbers f k (length coefficients)
value_span numbers f [] k h = refl
value_span numbers f (coefficient ∷ rest) k h =
    let head : coefficient ≡ f k = h 0 ∙ ap f (omega arith) in
    let tail = value_span numbers f rest (suc k) (λ j. h (suc j) ∙ ap f (omega arith)) in
    ap (λ (z : ℤ). z *ℤ numbers k +ℤ value_from numbers (suc k) rest) head ∙ ap (λ (z : ℤ). f k *ℤ numbers k +ℤ z) tail

pub value_is : (numbers : ℕ → ℤ) (end : ℕ) (rows : List Row) (entries : List (ℕ × ℤ)) (sum : Sum) → AllRise end rows
    → IsSumOf end rows entries sum → value_of_sum numbers sum ≡ sum_of (value_of_row numbers) rows entries
value_is numbers end rows entries sum rise h =
    let spread = value_span numbers (summed_coefficient rows entries) sum.coefficients 0
    (λ j. h.coefficients j ∙ ap (summed_coefficient rows entries) (omega arith)) in
    let whole = spread ∙ ap (λ (n : ℕ). span numbers (summed_coefficient rows entries) 0 n) h.count
    ∙ span_summed numbers end rows entries rise in
    ap (λ (z : ℤ). z +ℤ sum.constant) whole ∙ ap (λ (z : ℤ). sum_of (λ row. value_of_terms numbers row.terms) rows entries +ℤ z)
    h.constant ∙ sym (sum_of_add (λ row. value_of_terms numbers row.terms) (λ row. row.constant) rows entries)

-- a multiple of a row's value, where the multiplier may stand at the row
times_kind : (kind : RowKind) (by value : ℤ) → IsAllowedAt kind by → IsOfKind kind value → pos 0 ≤ℤ (by *ℤ value)
times_kind AtLeastZero by value a h = mul_nonneg_ℤ by value a h
times_kind IsZero by value a h =
    let z = mul-zero_ℤ by in
    rw h (omega (arith, ints))

sum_nonneg : (a b : ℤ) → pos 0 ≤ℤ a → pos 0 ≤ℤ b → pos 0 ≤ℤ (a +ℤ b)
sum_nonneg a b h k = omega (arith, ints)

pub combined_nonneg : (numbers : ℕ → ℤ) (rows : List Row) (entries : List (ℕ × ℤ)) → AllHold numbers rows → AllAllowed rows entries
    → pos 0 ≤ℤ sum_of (value_of_row numbers) rows entries
combined_nonneg numbers rows [] hold a = omega (arith, ints)
combined_nonneg numbers rows (entry ∷ rest) hold a =
    let row = a.0.0 in
    let found = a.0.1 in
    let holds = found_holds numbers rows entry.0 row hold found in
    let one = times_kind row.kind entry.1 (value_of_row numbers row) a.0.2 holds in
    let head = subst (λ (o : Option Row). pos 0 ≤ℤ (entry.1 *ℤ number_of (value_of_row numbers) o)) (sym found) one in
    sum_nonneg _ _ head (combined_nonneg numbers rows rest hold a.1)

pub sum_nonneg_where_rows_hold : (numbers : ℕ → ℤ) (end : ℕ) (rows : List Row) (entries : List (ℕ × ℤ)) (sum : Sum)
    → AllRise end rows → IsSumOf end rows entries sum → AllAllowed rows entries → AllHold numbers rows → pos 0 ≤ℤ value_of_sum numbers sum
sum_nonneg_where_rows_hold numbers end rows entries sum rise is a hold = subst (λ (z : ℤ). pos 0 ≤ℤ z)
    (sym (value_is numbers end rows entries sum rise is)) (combined_nonneg numbers rows entries hold a)
