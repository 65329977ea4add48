-- The entries of a trail of fall links show what falls along it.
use Rattle.std.proofs.Common.{◌≡◌, ◌⊎◌, inl, inr, ℕ, suc, ◌+◌, ◌<◌, ◌≤◌, ◌^◌, Bool, true, false, cond, not, eqb, List, [], ◌∷◌}
use Rattle.std.proofs.Common.{length, get_or, ℤ, pos, negsuc, ◌+ℤ◌, ◌-ℤ◌, ◌*ℤ◌, ◌≤ℤ◌, Option, Some, None, subst, ap, arith, refl}
use Rattle.std.proofs.Common.{◌∙◌, sym}
use Rattle.std.specs.Prelude.{slice_get, unsigned_abs, ◌||◌, is_some}
use Rattle.std.specs.Ordering.{int_eq}
use Rattle.std.specs.List.{All}
use Rattle.std.specs.Option.{option_map}
use Rattle.std.proofs.lemmas.Bool.{and_parts, eqb-true, false≢true, true≢false}
use Rattle.std.proofs.lemmas.Bool.Decides.{Decides-int_eq}
use Rattle.std.proofs.lemmas.Int.{ints}
use Rattle.std.proofs.lemmas.List.{length-map}
use Rattle.std.proofs.lemmas.Option.{slice_get-map, slice_get_within, same_Some, none-some}
use Rattle.rank_forms.proofs.Tied.{alone_is}
use Rattle.rank_forms.proofs.Fallen.{swapped}
use Rattle.list_views.proofs.Quantified.{all_at as at}
use Rattle.list_views.proofs.Ring.{times_minus}
use Rattle.lin_core.specs.declared.rows.RowKind.{RowKind}
use Rattle.lin_core.specs.declared.rows.RowKind.TheVariants.{AtLeastZero, IsZero}
use Rattle.lin_core.specs.declared.rows.WRow.{WRow}
use Rattle.lin_core.specs.declared.faults.LinFault.{LinFault}
use Rattle.lin_core.specs.Combination.{fault_at_row, first_of_two, number_of, sum_of, IsAllowedAt}
use Rattle.lin_core.specs.Rows.{Row, coefficient_of, value_of_terms}
use Rattle.lin_core.specs.Weights.{row_under, rows_under, unweighed}
use Rattle.lin_core.proofs.Signs.{mul-zero_ℤ}
use Rattle.rank_forms.specs.declared.following.Bound.{Bound}
use Rattle.rank_forms.specs.declared.following.BoundRow.{BoundRow}
use Rattle.rank_forms.specs.declared.rule_links.links.Come.{Come}
use Rattle.rank_forms.specs.declared.rule_links.links.Link.{Link}
use Rattle.rank_forms.specs.declared.rule_links.links.Tie.{Tie}
use Rattle.rank_forms.specs.rule_links.Counting.{multipliers_of}
use Rattle.rank_forms.specs.Following.{AreSteps, IsBoundAt, made, step_times}
use Rattle.rank_forms.specs.inner.Following.{SmallConstants, bound_from, bounded_by, step_entries, unit}
use Rattle.rank_forms.specs.rule_links.Falls.{IsFallTie, SaysAt, AreRising, IsAtLeast, IsLongest, bounds, has_bound}
use Rattle.rank_forms.specs.rule_links.Links.{IsWay, total}
use Rattle.rank_forms.specs.rule_links.Ties.{InTies, Known, by_of, is_alone, is_inequality, trail_from}
use Rattle.rank_forms.specs.rule_links.FallLinks.{IsFallLink, sign}
use Rattle.rank_forms.proofs.Along.{known_within}
use Rattle.rank_forms.proofs.Counted.{fine, multipliers_are}
use Rattle.rank_forms.proofs.Rests.{IsRest, rest_all, rest_first, rest_more}
use Rattle.rank_forms.proofs.Trailed.{AreShifts, IsShift, IsTrail, no_shift, shift_more, trail_is, trail_short}

-- a row of the list, under a weighing
pub under_at : (weigh : ℕ → ℤ) (rows : List WRow) (n : ℕ) (row : WRow) → slice_get rows n ≡ Some row
    → slice_get (rows_under weigh rows) n ≡ Some (row_under weigh row)
under_at weigh rows n row e = slice_get-map (row_under weigh) rows n ∙ ap (option_map (row_under weigh)) e

-- the sum of a single entry
pub sum_one : (number : Row → ℤ) (rows : List Row) (n : ℕ) (times : ℤ) (row : Row) → slice_get rows n ≡ Some row
    → sum_of number rows ((n, times) ∷ []) ≡ times *ℤ number row
sum_one number rows n times row e = ap (λ (o : Option Row). times *ℤ number_of number o +ℤ pos 0) e ∙ plain (times *ℤ number row)
  where
    plain : (x : ℤ) → x +ℤ pos 0 ≡ x
    plain x = omega (arith, ints)

-- the coefficients of two terms
two_there : (p q : Bool) → cond p (pos 1) (pos 0) +ℤ (cond q (negsuc 0) (pos 0) +ℤ pos 0) ≡ (cond p (pos 1) (pos 0) +ℤ pos 0) -ℤ
    (cond q (pos 1) (pos 0) +ℤ pos 0)
two_there true true = refl
two_there true false = refl
two_there false true = refl
two_there false false = refl

two_turned : (p q : Bool) → cond q (negsuc 0) (pos 0) +ℤ (cond p (pos 1) (pos 0) +ℤ pos 0) ≡ (cond p (pos 1) (pos 0) +ℤ pos 0) -ℤ
    (cond q (pos 1) (pos 0) +ℤ pos 0)
two_turned true true = refl
two_turned true false = refl
two_turned false true = refl
two_turned false false = refl

pub two_coefficients : (terms : List (ℕ × ℤ)) (plus minus x : ℕ) → (terms ≡ (plus, pos 1) ∷ (minus, negsuc 0) ∷ [])
    ⊎ (terms ≡ (minus, negsuc 0) ∷ (plus, pos 1) ∷ []) → coefficient_of x terms ≡ unit x plus -ℤ unit x minus
two_coefficients terms plus minus x h = elim h as (λ o. coefficient_of x terms ≡ unit x plus -ℤ unit x minus) [
  | inl e ↦ ap (coefficient_of x) e ∙ two_there (eqb plus x) (eqb minus x)
  | inr f ↦ ap (coefficient_of x) f ∙ two_turned (eqb plus x) (eqb minus x)
]

-- a tie's row, so many times
record SaysShift (negative : Bool) (times : ℤ) (row : WRow) (link : Link) : Type 0 where
  coefficients : (x : ℕ) → times *ℤ coefficient_of x row.terms ≡ sign negative *ℤ (unit x link.from -ℤ unit x link.to)
  constant : times *ℤ (row.constant +ℤ value_of_terms unweighed row.weights) ≡ negsuc 0 *ℤ link.by
  allowed : IsAllowedAt row.kind times
  small : unsigned_abs times ≤ 1

one_allowed : (kind : RowKind) → IsAllowedAt kind (pos 1)
one_allowed AtLeastZero = omega (arith, ints)
one_allowed IsZero = tt

zero_kind : (kind : RowKind) → kind ≡ IsZero → IsAllowedAt kind (negsuc 0)
zero_kind kind e = subst (λ (k : RowKind). IsAllowedAt k (negsuc 0)) (sym e) tt

weightless : (weights : List (ℕ × ℤ)) → weights ≡ [] → value_of_terms unweighed weights ≡ pos 0
weightless weights e = ap (value_of_terms unweighed) e

there : (c f t : ℤ) → c ≡ f -ℤ t → pos 1 *ℤ c ≡ pos 1 *ℤ (f -ℤ t)
there c f t e = ap (λ (z : ℤ). pos 1 *ℤ z) e

there_less : (c f t : ℤ) → c ≡ t -ℤ f → pos 1 *ℤ c ≡ negsuc 0 *ℤ (f -ℤ t)
there_less c f t e = omega (arith, ints)

again : (c f t : ℤ) → c ≡ t -ℤ f → negsuc 0 *ℤ c ≡ pos 1 *ℤ (f -ℤ t)
again c f t e = omega (arith, ints)

again_less : (c f t : ℤ) → c ≡ f -ℤ t → negsuc 0 *ℤ c ≡ negsuc 0 *ℤ (f -ℤ t)
again_less c f t e = ap (λ (z : ℤ). negsuc 0 *ℤ z) e

there_constant : (k by w : ℤ) → k +ℤ by ≡ pos 0 → w ≡ pos 0 → pos 1 *ℤ (k +ℤ w) ≡ negsuc 0 *ℤ by
there_constant k by w e z = omega (arith, ints)

again_constant : (k by w : ℤ) → k ≡ by → w ≡ pos 0 → negsuc 0 *ℤ (k +ℤ w) ≡ negsuc 0 *ℤ by
again_constant k by w e z = ap (λ (y : ℤ). negsuc 0 *ℤ y) (same k by w e z)
  where
    same : (k by w : ℤ) → k ≡ by → w ≡ pos 0 → k +ℤ w ≡ by
    same k by w e z = omega (arith, ints)

says_shift : (negative back : Bool) (row : WRow) (link : Link) → SaysAt negative back row link
    → SaysShift negative (cond back (negsuc 0) (pos 1)) row link
says_shift false false row link h = record {
  coefficients = λ x. there (coefficient_of x row.terms) (unit x link.from) (unit x link.to)
      (two_coefficients row.terms link.from link.to x h.terms);
  constant = there_constant row.constant link.by (value_of_terms unweighed row.weights) h.constant (weightless row.weights h.weights);
  allowed = one_allowed row.kind;
  small = omega (arith, ints);
}
says_shift true false row link h = record {
  coefficients = λ x. there_less (coefficient_of x row.terms) (unit x link.from) (unit x link.to)
      (two_coefficients row.terms link.to link.from x h.terms);
  constant = there_constant row.constant link.by (value_of_terms unweighed row.weights) h.constant (weightless row.weights h.weights);
  allowed = one_allowed row.kind;
  small = omega (arith, ints);
}
says_shift false true row link h = record {
  coefficients = λ x. again (coefficient_of x row.terms) (unit x link.from) (unit x link.to)
      (two_coefficients row.terms link.to link.from x (swapped row.terms link.from link.to h.terms));
  constant = again_constant row.constant link.by (value_of_terms unweighed row.weights) h.constant (weightless row.weights h.weights);
  allowed = zero_kind row.kind h.equation;
  small = omega (arith, ints);
}
says_shift true true row link h = record {
  coefficients = λ x. again_less (coefficient_of x row.terms) (unit x link.from) (unit x link.to)
      (two_coefficients row.terms link.from link.to x (swapped row.terms link.to link.from h.terms));
  constant = again_constant row.constant link.by (value_of_terms unweighed row.weights) h.constant (weightless row.weights h.weights);
  allowed = zero_kind row.kind h.equation;
  small = omega (arith, ints);
}

step_shift : (negative : Bool) (rows : List WRow) (tie : Tie) → IsFallTie negative rows tie
    → IsShift (rows_under unweighed rows) (sign negative) (negsuc 0) 1 tie ((tie.row, step_times tie) ∷ [])
step_shift negative rows tie h =
    let s = says_shift negative tie.back h.row tie.link h.says in
    let under = under_at unweighed rows tie.row h.row h.at in
    record {
      coefficients = λ x. sum_one (λ row. coefficient_of x row.terms) (rows_under unweighed rows) tie.row (step_times tie)
          (row_under unweighed h.row) under ∙ s.coefficients x;
      constant = sum_one (λ row. row.constant) (rows_under unweighed rows) tie.row (step_times tie) (row_under unweighed h.row)
          under ∙ s.constant;
      allowed = ((row_under unweighed h.row, under, s.allowed), tt);
      small = λ n. one_small (eqb tie.row n) (step_times tie) s.small;
    }
  where
    one_small : (here : Bool) (a : ℤ) → unsigned_abs a ≤ 1 → unsigned_abs (cond here a (pos 0) +ℤ pos 0) ≤ 1
    one_small true a h = omega (arith, ints, h)
    one_small false a h = omega (arith, ints)

-- a whole trail
pub steps_shift : (negative : Bool) (rows : List WRow) (first v : ℕ) (by : ℤ) (ties : List Tie)
    → IsTrail (IsFallTie negative rows) first v by ties → AreShifts (rows_under unweighed rows) (sign negative) (negsuc 0)
    (length ties) first v by (step_entries ties)
steps_shift negative rows first v by [] h = no_shift (rows_under unweighed rows) (sign negative) (negsuc 0) first v by h.0 h.1
steps_shift negative rows first v by (tie ∷ rest) h =
    subst (λ (n : ℕ). AreShifts (rows_under unweighed rows) (sign negative) (negsuc 0) n first v by (step_entries (tie ∷ rest)))
    (one_more rest) (shift_more (rows_under unweighed rows) (sign negative) (negsuc 0) 1 (length rest) first v h.2 by tie
    ((tie.row, step_times tie) ∷ []) (step_entries rest) h.1 h.3 (step_shift negative rows tie h.0)
    (steps_shift negative rows first tie.link.from h.2 rest h.4))
  where
    one_more : (rest : List Tie) → 1 + length rest ≡ suc (length rest)
    one_more rest = omega arith

pub record IsBoundRow (negative : Bool) (start : ℕ) (rows : List WRow) (bound : BoundRow) : Type 0 where
  pub row : WRow
  pub at : slice_get rows bound.row ≡ Some row
  pub holds : bounds negative start row ≡ true
  pub constant : row.constant ≡ bound.base

bound_cases : (test : Bool) (negative : Bool) (start n : ℕ) (all : List WRow) (row : WRow) (later : Option BoundRow)
    (bound : BoundRow) → bounds negative start row ≡ test → slice_get all n ≡ Some row
    → (later ≡ Some bound → IsBoundRow negative start all bound) → cond test (Some (record { row = n; base = row.constant })) later
    ≡ Some bound → IsBoundRow negative start all bound
bound_cases true negative start n all row later bound t is more e = subst (IsBoundRow negative start all)
    (same_Some (record { row = n; base = row.constant }) bound e) (record { row = row; at = is; holds = t; constant = refl })
bound_cases false negative start n all row later bound t is more e = more e

pub bound_is : (negative : Bool) (start n : ℕ) (all rows : List WRow) (bound : BoundRow) → IsRest all n rows
    → bound_from negative start n rows ≡ Some bound → IsBoundRow negative start all bound
bound_is negative start n all [] bound h e = absurd (none-some bound e)
bound_is negative start n all (row ∷ rest) bound h e = bound_cases (bounds negative start row) negative start n all row
    (bound_from negative start (suc n) rest) bound refl (rest_first all n row rest h)
    (λ f. bound_is negative start (suc n) all rest bound (rest_more all n row rest h) f) e

unbounded_cases : (test rest : Bool) (n : ℕ) (k : ℤ) (later : Option BoundRow)
    → cond test (Some (record { row = n; base = k })) later ≡ None → (later ≡ None → rest ≡ false) → (test || rest) ≡ false
unbounded_cases true rest n k later e more = absurd (some_not (record { row = n; base = k }) e)
  where
    some_not : (a : BoundRow) → ◌≡◌ {A = Option BoundRow} (Some a) None → ⊥
    some_not a e = absurd (cc)
unbounded_cases false rest n k later e more = more e

pub unbounded_is : (negative : Bool) (start n : ℕ) (rows : List WRow) → bound_from negative start n rows ≡ None
    → has_bound negative start rows ≡ false
unbounded_is negative start n [] e = refl
unbounded_is negative start n (row ∷ rest) e = unbounded_cases (bounds negative start row) (has_bound negative start rest) n
    row.constant (bound_from negative start (suc n) rest) e (λ f. unbounded_is negative start (suc n) rest f)

unit_times : (negative : Bool) (variable start : ℕ) → coefficient_of variable ((start, sign negative) ∷ []) ≡ sign negative *ℤ unit
    variable start
unit_times true variable start = less (eqb start variable)
  where
    less : (p : Bool) → cond p (negsuc 0) (pos 0) +ℤ pos 0 ≡ negsuc 0 *ℤ (cond p (pos 1) (pos 0) +ℤ pos 0)
    less true = refl
    less false = refl
unit_times false variable start = same (eqb start variable)
  where
    same : (p : Bool) → cond p (pos 1) (pos 0) +ℤ pos 0 ≡ pos 1 *ℤ (cond p (pos 1) (pos 0) +ℤ pos 0)
    same true = refl
    same false = refl

unweighed_zero : (weights : List (ℕ × ℤ)) → value_of_terms unweighed weights ≡ pos 0
unweighed_zero [] = refl
unweighed_zero (weight ∷ rest) = nothing weight.1 (value_of_terms unweighed rest) (unweighed_zero rest)
  where
    nothing : (a b : ℤ) → b ≡ pos 0 → a *ℤ pos 0 +ℤ b ≡ pos 0
    nothing a b e = let z = mul-zero_ℤ a in omega (arith, ints)

no_more : (fault : Option LinFault) → fault ≡ None → first_of_two fault None ≡ None
no_more None e = refl
no_more (Some fault) e = e

times_one : (a : ℤ) → pos 1 *ℤ a ≡ a
times_one a = omega (arith, ints)

bound_at : (negative : Bool) (start : ℕ) (rows : List WRow) (bound : BoundRow) → SmallConstants rows
    → IsBoundRow negative start rows bound → IsBoundAt (rows_under unweighed rows) ((start, sign negative) ∷ [])
    (record { rows = (bound.row, pos 1) ∷ []; base = bound.base })
bound_at negative start rows bound small h =
    let parts = and_parts (is_inequality h.row.kind) (is_alone start (sign negative) h.row.terms) h.holds in
    let under = rows_under unweighed rows in
    let row = row_under unweighed h.row in
    let there : slice_get under bound.row ≡ Some row = under_at unweighed rows bound.row h.row h.at in
    record {
      fault = no_more (fault_at_row 0 (pos 1) (slice_get under bound.row)) (ap (fault_at_row 0 (pos 1)) there
          ∙ fine 0 (pos 1) row (one_allowed row.kind) (omega (arith, ints)));
      few = let low = slice_get_within under bound.row row there in omega (arith, low);
      coefficients = λ variable. sum_one (λ row. coefficient_of variable row.terms) under bound.row (pos 1) row there
          ∙ times_one (coefficient_of variable row.terms)
          ∙ ap (coefficient_of variable) (alone_is start (sign negative) h.row.terms parts.1);
      constant = sum_one (λ row. row.constant) under bound.row (pos 1) row there ∙ times_one row.constant
          ∙ plus_nothing h.row.constant (value_of_terms unweighed h.row.weights) (unweighed_zero h.row.weights) ∙ h.constant;
      small = subst (λ (k : ℤ). unsigned_abs k ≤ 2 ^ 40) h.constant
          (at (λ (row : WRow). unsigned_abs row.constant ≤ 2 ^ 40) rows bound.row h.row small h.at);
    }
  where
    plus_nothing : (a b : ℤ) → b ≡ pos 0 → a +ℤ b ≡ a
    plus_nothing a b e = omega (arith, ints)

bounded_is : (rows : List Row) (start : List (ℕ × ℤ)) (found : Option BoundRow) (one : Bound)
    → ((row : BoundRow) → found ≡ Some row → IsBoundAt rows start (record { rows = (row.row, pos 1) ∷ []; base = row.base }))
    → bounded_by found ≡ Some one → IsBoundAt rows start one
bounded_is rows start None one h e = absurd (none-some one e)
bounded_is rows start (Some row) one h e = subst (IsBoundAt rows start)
    (same_Some (record { rows = (row.row, pos 1) ∷ []; base = row.base }) one e) (h row refl)

bounded_none : (found : Option BoundRow) → bounded_by found ≡ None → found ≡ None
bounded_none None e = refl
bounded_none (Some row) e = absurd (some_not (record { rows = (row.row, pos 1) ∷ []; base = row.base }) e)
  where
    some_not : (a : Bound) → ◌≡◌ {A = Option Bound} (Some a) None → ⊥
    some_not a e = absurd (cc)

-- the whole
rising_tie_of : (negative : Bool) (rows : List WRow) (ties : List Tie) → All (IsFallTie negative rows) ties → AreRising ties
    → All (λ (tie : Tie). IsFallTie negative rows tie × (tie.link.from < tie.link.to)) ties
rising_tie_of negative rows ties all rising i d low = (all i d low, rising i d low)

weaker : (negative : Bool) (rows : List WRow) (first v : ℕ) (by : ℤ) (ties : List Tie)
    → IsTrail (λ (tie : Tie). IsFallTie negative rows tie × (tie.link.from < tie.link.to)) first v by ties
    → IsTrail (IsFallTie negative rows) first v by ties
weaker negative rows first v by [] h = h
weaker negative rows first v by (tie ∷ rest) h = (h.0.0, h.1, h.2, h.3, weaker negative rows first tie.link.from h.2 rest h.4)

way_in : (negative : Bool) (rows : List WRow) (ties : List Tie) → ((link : Link) → IsFallLink negative rows link → InTies ties link)
    → (u v : ℕ) (links : List Link) → IsWay (IsFallLink negative rows) u links v → IsWay (InTies ties) u links v
way_in negative rows ties complete u v [] h = h
way_in negative rows ties complete u v (link ∷ rest) h =
    (record { begins = h.0.begins; is = complete link h.0.is }, way_in negative rows ties complete link.to v rest h.1)

at_least : (found : Option Come) (come : Come) (by : ℤ) → found ≡ Some come → IsAtLeast found by → by ≤ℤ come.by
at_least found come by e h = subst (λ (o : Option Come). IsAtLeast o by) e h

pub record AreFallTies (negative : Bool) (rows : List WRow) (ties : List Tie) : Type 0 where
  pub rising : AreRising ties
  pub complete : (link : Link) → IsFallLink negative rows link → InTies ties link
  pub in_rows : All (IsFallTie negative rows) ties

none_leads : (found : Option Come) (by : ℤ) → found ≡ None → IsAtLeast found by → ⊥
none_leads found by e h = subst (λ (o : Option Come). IsAtLeast o by) e h

pub no_steps : (negative : Bool) (rows : List WRow) (start finish : ℕ) (ties : List Tie) (known : Known)
    → AreFallTies negative rows ties → IsLongest ties start known → get_or known finish None ≡ None → (links : List Link)
    → IsWay (IsFallLink negative rows) start links finish → ⊥
no_steps negative rows start finish ties known are longest e links way = none_leads (get_or known finish None) (total links) e
    (longest.greatest links finish (way_in negative rows ties are.complete start finish links way))

pub steps_are : (negative : Bool) (rows : List WRow) (start finish : ℕ) (ties : List Tie) (known : Known) (come : Come) (falls : ℤ)
    (fall : List (ℕ × ℤ)) (bound : Option Bound) → SmallConstants rows → finish < 65536 → AreFallTies negative rows ties
    → IsLongest ties start known → get_or known finish None ≡ Some come → falls ≡ come.by
    → fall ≡ multipliers_of (length rows) (step_entries (trail_from (length known) known finish))
    → bound ≡ bounded_by (bound_from negative start 0 rows)
    → AreSteps negative rows start finish (record { falls = falls; fall = fall; bound = bound })
steps_are negative rows start finish ties known come falls fall bound small low are longest e a f b =
    let within = known_within known finish come e in
    let trail = trail_from (length known) known finish in
    let P : Tie → Type 0 = λ (tie : Tie). IsFallTie negative rows tie × (tie.link.from < tie.link.to) in
    let is = trail_is P ties start known (rising_tie_of negative rows ties are.in_rows are.rising) are.rising longest.linked
    (length known) finish come within e in
    let short = trail_short P start finish come.by trail (λ tie h. h.1) is in
    let shifts = steps_shift negative rows start finish come.by trail (weaker negative rows start finish come.by trail is) in
    let count : length rows ≡ length (rows_under unweighed rows) = sym (length-map rows (row_under unweighed)) in
    let m = multipliers_are (rows_under unweighed rows) (length rows) (step_entries trail) count shifts.allowed
    (λ n. through (unsigned_abs (coefficient_of n (step_entries trail))) (length trail) finish (shifts.small n) short low) in
    subst (λ (x : ℤ). AreSteps negative rows start finish (record { falls = x; fall = fall; bound = bound })) (sym a)
    (subst (λ (l : List (ℕ × ℤ)). AreSteps negative rows start finish (record { falls = come.by; fall = l; bound = bound }))
    (sym f) (record {
      shown = record {
        fault = m.fault;
        few = m.few;
        coefficients = λ variable. m.sums (λ row. coefficient_of variable row.terms) ∙ shifts.coefficients variable
            ∙ times_minus (sign negative) (unit variable start) (unit variable finish)
            ∙ less_terms (sign negative *ℤ unit variable start) (sign negative *ℤ unit variable finish)
            (coefficient_of variable ((start, sign negative) ∷ [])) (coefficient_of variable ((finish, sign negative) ∷ []))
            (unit_times negative variable start) (unit_times negative variable finish);
        constant = opposite (sum_of (λ row. row.constant) (rows_under unweighed rows)
            (multipliers_of (length rows) (step_entries trail))) come.by (m.sums (λ row. row.constant) ∙ shifts.constant);
        bound = λ one g. bounded_is (rows_under unweighed rows) ((start, sign negative) ∷ []) (bound_from negative start 0 rows) one
            (λ row e. bound_at negative start rows row small (bound_is negative start 0 rows rows row (rest_all rows) e)) (sym b ∙ g);
      };
      most = λ links way. at_least (get_or known finish None) come (total links) e
          (longest.greatest links finish (way_in negative rows ties are.complete start finish links way));
      unbounded = λ g. unbounded_is negative start 0 rows (bounded_none (bound_from negative start 0 rows) (sym b ∙ g));
    }))
  where
    through : (a b c : ℕ) → a ≤ b → b ≤ c → c < 65536 → a ≤ 2 ^ 31
    through a b c h k l = omega (arith, h, k, l)

    opposite : (a b : ℤ) → a ≡ negsuc 0 *ℤ b → a +ℤ b ≡ pos 0
    opposite a b e = omega (arith, ints)

    less_terms : (a b c d : ℤ) → c ≡ a → d ≡ b → a -ℤ b ≡ c -ℤ d
    less_terms a b c d e f = omega (arith, ints)

-- the whole, where something is known of the last variable
pub none_told : (come : Option Come) (told : Bool) → is_some come ≡ not told → told ≡ true → come ≡ None
none_told None told e t = refl
none_told (Some come) told e t = absurd (true≢false (e ∙ ap not t))

pub steps_made : (negative : Bool) (rows : List WRow) (start finish : ℕ) (ties : List Tie) (known : Known) (come : Option Come)
    (told : Bool) (falls : ℤ) (fall : List (ℕ × ℤ)) (bound : Option Bound) → SmallConstants rows → finish < 65536
    → AreFallTies negative rows ties → IsLongest ties start known → come ≡ get_or known finish None → is_some come ≡ not told
    → told ≡ false → falls ≡ by_of come
    → fall ≡ multipliers_of (length rows) (step_entries (trail_from (length known) known finish))
    → bound ≡ bounded_by (bound_from negative start 0 rows) → AreSteps negative rows start finish (made falls fall bound)
steps_made negative rows start finish ties known None told falls fall bound small low are longest e there t a f b = absurd
    (false≢true (there ∙ ap not t))
steps_made negative rows start finish ties known (Some come) told falls fall bound small low are longest e there t a f b = steps_are
    negative rows start finish ties known come falls fall bound small low are longest (sym e) a f b
