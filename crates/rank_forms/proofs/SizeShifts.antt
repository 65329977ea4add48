-- Why a size falls along a rule.
use Rattle.std.proofs.Common.{◌≡◌, ◌⊎◌, inl, inr, ℕ, suc, ◌+◌, ◌*◌, ◌<◌, ◌≤◌, Bool, true, false, cond, eqb, List, [], ◌∷◌, length}
use Rattle.std.proofs.Common.{get_or, ℤ, pos, negsuc, ◌+ℤ◌, ◌-ℤ◌, ◌*ℤ◌, ◌≤ℤ◌, Some, None, subst, ap, arith, refl, ◌∙◌, sym}
use Rattle.std.specs.Prelude.{slice_get, unsigned_abs}
use Rattle.std.specs.List.{All}
use Rattle.std.proofs.lemmas.Bool.{eqb-true}
use Rattle.std.proofs.lemmas.Int.{ints}
use Rattle.list_views.proofs.Quantified.{all_at as at}
use Rattle.lin_core.specs.declared.rows.RowKind.TheVariants.{IsZero}
use Rattle.lin_core.specs.declared.rows.WRow.{WRow}
use Rattle.lin_core.specs.Combination.{sum_of}
use Rattle.lin_core.specs.Rows.{RiseFrom, coefficient_of, value_of_terms}
use Rattle.lin_core.specs.Weights.{AreRows, IsRow, row_under, rows_under}
use Rattle.lin_core.proofs.Signs.{mul-zero_ℤ}
use Rattle.rank_forms.specs.declared.rule_links.links.Come.{Come}
use Rattle.rank_forms.specs.declared.rule_links.links.Link.{Link}
use Rattle.rank_forms.specs.declared.rule_links.links.Tie.{Tie}
use Rattle.rank_forms.specs.inner.Following.{unit}
use Rattle.rank_forms.specs.Graphs.{AreSizeTerms, IsOneKind}
use Rattle.rank_forms.specs.rule_links.SizeLinks.{weighed_once}
use Rattle.rank_forms.specs.Reasons.{part_entries, size_entries, size_tie_entries, terms_at}
use Rattle.rank_forms.specs.rule_links.Falls.{AreRising, IsLongest, size_constant, IsSizeTie, SaysSize, zero_from}
use Rattle.rank_forms.specs.rule_links.Ties.{Known, trail_from}
use Rattle.rank_forms.specs.SizeReasons.{AreSizeTies, size_made}
use Rattle.rank_forms.proofs.Along.{known_within}
use Rattle.rank_forms.proofs.Reasoned.{IsReasoned}
use Rattle.rank_forms.proofs.RowValues.{row_allowed, row_constant, row_value, under_number, under_terms, zero_allowed}
use Rattle.rank_forms.proofs.Sized.{HasTerm, has_term}
use Rattle.rank_forms.proofs.SizeParts.{AreParts, AreShortTerms, IsPart, parts_out, times_in, zero_row_is}
use Rattle.rank_forms.proofs.Stepped.{two_coefficients, under_at}
use Rattle.rank_forms.proofs.Trailed.{AreShifts, IsShift, IsTrail, no_shift, shift_more, trail_is, trail_short}

-- classes that a row names weigh 1
abbrev pub IsWeighed : (ℕ → ℤ) → WRow → Type 0
IsWeighed weigh row = value_of_terms weigh row.weights ≡ weighed_once row.weights

-- ---- a tie whose row has sizes alone
pub record IsSizedTie (end : ℕ) (weigh : ℕ → ℤ) (rows : List WRow) (tie : Tie) : Type 0 where
  pub row : WRow
  pub at : slice_get rows tie.row ≡ Some row
  pub equation : row.kind ≡ IsZero
  pub says : SaysSize rows row tie.back tie.link
  pub less : tie.link.from < tie.link.to
  pub rise : RiseFrom 0 end row.terms
  pub short : AreShortTerms row.terms
  pub weighed : IsWeighed weigh row

short_terms : (sizes : ℕ → Bool) (terms : List (ℕ × ℤ)) → AreSizeTerms sizes terms → AreShortTerms terms
short_terms sizes [] h = tt
short_terms sizes (term ∷ rest) h = ((h 0 term (omega arith)).1, short_terms sizes rest (λ i d low. h (suc i) d (omega (arith, low))))

not_nothing : (c : ℤ) → c ≤ℤ negsuc 0 → c ≡ pos 0 → ⊥
not_nothing c h e = omega (arith, ints, h, e)

is_one : (c : ℤ) → c ≡ pos 1 → c ≡ pos 0 → ⊥
is_one c h e = omega (arith, ints, h, e)

-- both ends of the link stand in the row
record HasEnds (row : WRow) (link : Link) : Type 0 where
  pub from_times : ℤ
  pub from : HasTerm link.from from_times row.terms
  pub to_times : ℤ
  pub to : HasTerm link.to to_times row.terms

has_ends : (back : Bool) (end : ℕ) (rows : List WRow) (row : WRow) (link : Link) → RiseFrom 0 end row.terms
    → SaysSize rows row back link → HasEnds row link
has_ends false end rows row link rise says = record {
  from_times = coefficient_of link.from row.terms;
  from = has_term link.from 0 end (coefficient_of link.from row.terms) row.terms rise refl
      (is_one (coefficient_of link.from row.terms) says.0.one);
  to_times = coefficient_of link.to row.terms;
  to = has_term link.to 0 end (coefficient_of link.to row.terms) row.terms rise refl
      (not_nothing (coefficient_of link.to row.terms) says.1);
}
has_ends true end rows row link rise says = elim says.0 as (λ o. HasEnds row link) [
  | inl e ↦ record {
    from_times = negsuc 0;
    from = (0, ap (λ (l : List (ℕ × ℤ)). slice_get l 0) e);
    to_times = pos 1;
    to =
        (1, ap (λ (l : List (ℕ × ℤ)). slice_get l 1) e);
  }
  | inr f ↦ record {
    from_times = negsuc 0;
    from = (1, ap (λ (l : List (ℕ × ℤ)). slice_get l 1) f);
    to_times = pos 1;
    to =
        (0, ap (λ (l : List (ℕ × ℤ)). slice_get l 0) f);
  }
]

-- what holds of a trail from a size: it leads through sizes alone
abbrev IsRisingTie : List WRow → Tie → Type 0
IsRisingTie rows tie = IsSizeTie rows tie × (tie.link.from < tie.link.to)

record IsSizedTrail (end : ℕ) (weigh : ℕ → ℤ) (rows : List WRow) (sizes : ℕ → Bool) (first v : ℕ) (by : ℤ) (ties : List Tie) : Type 0 where
  pub size : sizes v ≡ true
  pub trail : IsTrail (IsSizedTie end weigh rows) first v by ties

sized_trail : (end : ℕ) (weigh : ℕ → ℤ) (rows : List WRow) (sizes : ℕ → Bool) (first v : ℕ) (by : ℤ) (ties : List Tie)
    → AreRows end rows → All (IsOneKind sizes) rows → All (IsWeighed weigh) rows → sizes first ≡ true
    → IsTrail (IsRisingTie rows) first v by ties → IsSizedTrail end weigh rows sizes first v by ties
sized_trail end weigh rows sizes first v by [] fit kinds weighed size h = record { size = ap sizes h.0 ∙ size; trail = h }
sized_trail end weigh rows sizes first v by (tie ∷ rest) fit kinds weighed size h =
    let more = sized_trail end weigh rows sizes first tie.link.from h.2 rest fit kinds weighed size h.4 in
    let t = h.0.0 in
    let rise = (at (IsRow end) rows tie.row t.row fit t.at).rise in
    let ends = has_ends tie.back end rows t.row tie.link rise t.says in
    let terms = (at (IsOneKind sizes) rows tie.row t.row kinds t.at).alike t.equation ends.from.0 (tie.link.from, ends.from_times)
    ends.from.1 more.size in
    let last = at (λ (term : ℕ × ℤ). (sizes term.0 ≡ true) × (unsigned_abs term.1 ≤ 4096)) t.row.terms ends.to.0
    (tie.link.to, ends.to_times) terms ends.to.1 in
    record {
      size = ap sizes (sym h.1) ∙ last.0;
      trail = (
        record {
          row = t.row;
          at = t.at;
          equation = t.equation;
          says = t.says;
          less = h.0.1;
          rise = rise;
          short = short_terms
              sizes t.row.terms terms;
          weighed = at (IsWeighed weigh) rows tie.row t.row weighed t.at;
        },
        h.1,
        h.2,
        h.3,
        more.trail,
      );
    }

-- ---- a variable that rises in terms stands there once
low_once : (here : Bool) (y x low : ℕ) (rest : ℤ) → eqb y x ≡ here → low ≤ y → x < low → rest ≡ pos 0
    → cond here (pos 1) (pos 0) +ℤ rest ≡ pos 0
low_once true y x low rest e l h r = absurd (let s = eqb-true y x e in omega (arith, s, l, h))
low_once false y x low rest e l h r = omega (arith, ints, r)

times_low : (x low end : ℕ) (terms : List (ℕ × ℤ)) → RiseFrom low end terms → x < low → times_in x terms ≡ pos 0
times_low x low end [] h less = refl
times_low x low end (term ∷ rest) h less = low_once (eqb term.0 x) term.0 x low (times_in x rest) refl h.0 less
    (times_low x (suc term.0) end rest h.2 (under x low term.0 less h.0))
  where
    under : (a b c : ℕ) → a < b → b ≤ c → a < suc c
    under a b c h k = omega (arith, h, k)

once_cases : (here : Bool) (x low end : ℕ) (term : ℕ × ℤ) (rest : List (ℕ × ℤ)) → eqb term.0 x ≡ here
    → RiseFrom (suc term.0) end rest → (cond here term.1 (pos 0) +ℤ coefficient_of x rest ≡ pos 0 → ⊥)
    → ((coefficient_of x rest ≡ pos 0 → ⊥) → times_in x rest ≡ pos 1) → cond here (pos 1) (pos 0) +ℤ times_in x rest ≡ pos 1
once_cases true x low end term rest e rise some more = one (times_in x rest)
    (times_low x (suc term.0) end rest rise (below x term.0 (eqb-true term.0 x e)))
  where
    one : (a : ℤ) → a ≡ pos 0 → pos 1 +ℤ a ≡ pos 1
    one a e = omega (arith, ints, e)

    below : (a b : ℕ) → b ≡ a → a < suc b
    below a b e = omega (arith, e)
once_cases false x low end term rest e rise some more = none (times_in x rest) (more (λ z. some (plain (coefficient_of x rest) z)))
  where
    none : (a : ℤ) → a ≡ pos 1 → pos 0 +ℤ a ≡ pos 1
    none a e = omega (arith, ints, e)

    plain : (a : ℤ) → a ≡ pos 0 → pos 0 +ℤ a ≡ pos 0
    plain a e = omega (arith, ints, e)

times_once : (x low end : ℕ) (terms : List (ℕ × ℤ)) → RiseFrom low end terms → (coefficient_of x terms ≡ pos 0 → ⊥)
    → times_in x terms ≡ pos 1
times_once x low end [] h some = absurd (some refl)
times_once x low end (term ∷ rest) h some = once_cases (eqb term.0 x) x low end term rest refl h.2 some
    (λ s. times_once x (suc term.0) end rest h.2 s)

-- ---- a tie's rows
are_parts : (rows : List WRow) (link : Link) (terms : List (ℕ × ℤ))
    → ((n : ℕ) (term : ℕ × ℤ) → slice_get terms n ≡ Some term → IsPart rows link term) → AreParts rows link terms
are_parts rows link [] h = tt
are_parts rows link (term ∷ rest) h = (h 0 term refl, are_parts rows link rest (λ n other is. h (suc n) other is))

abbrev most_of_tie : ℕ
most_of_tie = 4097

part_shift : (end : ℕ) (weigh : ℕ → ℤ) (rows : List WRow) (tie : Tie) (row : WRow) → slice_get rows tie.row ≡ Some row
    → row.kind ≡ IsZero → tie.link.from < tie.link.to → RiseFrom 0 end row.terms → AreShortTerms row.terms → IsWeighed weigh row
    → SaysSize rows row false tie.link → IsShift (rows_under weigh rows) (pos 1) (negsuc 0) most_of_tie tie
    ((tie.row, pos 1) ∷ part_entries rows tie.link row.terms)
part_shift end weigh rows tie row is kind less rise short weighed says =
    let gives = says.0 in
    let out = parts_out weigh rows tie.link end row.terms less rise (are_parts rows tie.link row.terms gives.others) short in
    let rest = part_entries rows tie.link row.terms in
    let U = rows_under weigh rows in
    record {
      coefficients = λ x. under_terms weigh rows tie.row (pos 1) row x rest is
          ∙ turned (coefficient_of x row.terms) (sum_of (λ row. coefficient_of x row.terms) U rest) ∙ out.coefficients x
          ∙ ap (λ (z : ℤ). z *ℤ unit x tie.link.from -ℤ times_in tie.link.to row.terms *ℤ unit x tie.link.to) gives.one
          ∙ ap (λ (z : ℤ). pos 1 *ℤ unit x tie.link.from -ℤ z *ℤ unit x tie.link.to)
          (times_once tie.link.to 0 end row.terms rise (not_nothing (coefficient_of tie.link.to row.terms) says.1))
          ∙ ones (unit x tie.link.from) (unit x tie.link.to);
      constant = under_number weigh rows tie.row (pos 1) row rest is
          ∙ ap (λ (z : ℤ). pos 1 *ℤ (row.constant +ℤ z) +ℤ sum_of (λ row. row.constant) U rest) weighed
          ∙ ap (λ (z : ℤ). pos 1 *ℤ size_constant row +ℤ z) out.constant ∙ less_by (size_constant row) tie.link.by says.2;
      allowed = ((row_under weigh row, under_at weigh rows tie.row row is, zero_allowed row.kind (pos 1) kind), out.allowed);
      small = λ n. one_more (eqb tie.row n) (coefficient_of n rest) (out.small n);
    }
  where
    turned : (a b : ℤ) → pos 1 *ℤ a +ℤ b ≡ b +ℤ a
    turned a b = omega (arith, ints)

    ones : (a b : ℤ) → pos 1 *ℤ a -ℤ pos 1 *ℤ b ≡ pos 1 *ℤ (a -ℤ b)
    ones a b = omega (arith, ints)

    less_by : (k by : ℤ) → by +ℤ k ≡ pos 0 → pos 1 *ℤ k +ℤ pos 0 ≡ negsuc 0 *ℤ by
    less_by k by e = omega (arith, ints, e)

    one_more : (here : Bool) (a : ℤ) → unsigned_abs a ≤ 4096 → unsigned_abs (cond here (pos 1) (pos 0) +ℤ a) ≤ 4097
    one_more true a h = omega (arith, ints, h)
    one_more false a h = omega (arith, ints, h)

back_shift : (weigh : ℕ → ℤ) (rows : List WRow) (tie : Tie) (row : WRow) → slice_get rows tie.row ≡ Some row → row.kind ≡ IsZero
    → IsWeighed weigh row → SaysSize rows row true tie.link → IsShift (rows_under weigh rows) (pos 1) (negsuc 0) most_of_tie tie
    ((tie.row, negsuc 0) ∷ [])
back_shift weigh rows tie row is kind weighed says = record {
  coefficients = λ x. under_terms weigh rows tie.row (negsuc 0) row x [] is
      ∙ again (coefficient_of x row.terms) (unit x tie.link.from) (unit x tie.link.to)
      (two_coefficients row.terms tie.link.to tie.link.from x (swapped row.terms tie.link.from tie.link.to says.0));
  constant = under_number weigh rows tie.row (negsuc 0) row [] is ∙ ap (λ (z : ℤ). negsuc 0 *ℤ (row.constant +ℤ z) +ℤ pos 0) weighed
      ∙ again_by (size_constant row) tie.link.by says.1;
  allowed = ((row_under weigh row, under_at weigh rows tie.row row is, zero_allowed row.kind (negsuc 0) kind), tt);
  small = λ n. one (eqb tie.row n);
}
  where
    again : (c f t : ℤ) → c ≡ t -ℤ f → negsuc 0 *ℤ c +ℤ pos 0 ≡ pos 1 *ℤ (f -ℤ t)
    again c f t e = omega (arith, ints, e)

    again_by : (k by : ℤ) → by ≡ k → negsuc 0 *ℤ k +ℤ pos 0 ≡ negsuc 0 *ℤ by
    again_by k by e = omega (arith, ints, e)

    one : (here : Bool) → unsigned_abs (cond here (negsuc 0) (pos 0) +ℤ pos 0) ≤ 4097
    one true = omega (arith, ints)
    one false = omega (arith, ints)

    swapped : (terms : List (ℕ × ℤ)) (from to : ℕ) → (terms ≡ (from, negsuc 0) ∷ (to, pos 1) ∷ [])
        ⊎ (terms ≡ (to, pos 1) ∷ (from, negsuc 0) ∷ []) → (terms ≡ (to, pos 1) ∷ (from, negsuc 0) ∷ [])
        ⊎ (terms ≡ (from, negsuc 0) ∷ (to, pos 1) ∷ [])
    swapped terms from to h = elim h as (λ o. (terms ≡ (to, pos 1) ∷ (from, negsuc 0) ∷ [])
        ⊎ (terms ≡ (from, negsuc 0) ∷ (to, pos 1) ∷ [])) [
          | inl e ↦ inr e
          | inr f ↦ inl f
        ]

says_shift : (back : Bool) (end : ℕ) (weigh : ℕ → ℤ) (rows : List WRow) (tie : Tie) (row : WRow) → slice_get rows tie.row ≡ Some row
    → row.kind ≡ IsZero → tie.link.from < tie.link.to → RiseFrom 0 end row.terms → AreShortTerms row.terms → IsWeighed weigh row
    → SaysSize rows row back tie.link → IsShift (rows_under weigh rows) (pos 1) (negsuc 0) most_of_tie tie
    ((tie.row, cond back (negsuc 0) (pos 1)) ∷ cond back [] (part_entries rows tie.link (terms_at (slice_get rows tie.row))))
says_shift true end weigh rows tie row is kind less rise short weighed says = back_shift weigh rows tie row is kind weighed says
says_shift false end weigh rows tie row is kind less rise short weighed says = subst
    (λ (l : List (ℕ × ℤ)). IsShift (rows_under weigh rows) (pos 1) (negsuc 0) most_of_tie tie
    ((tie.row, pos 1) ∷ part_entries rows tie.link l)) (sym (ap terms_at is))
    (part_shift end weigh rows tie row is kind less rise short weighed says)

size_shift : (end : ℕ) (weigh : ℕ → ℤ) (rows : List WRow) (tie : Tie) → IsSizedTie end weigh rows tie
    → IsShift (rows_under weigh rows) (pos 1) (negsuc 0) most_of_tie tie (size_tie_entries rows tie)
size_shift end weigh rows tie h = says_shift tie.back end weigh rows tie h.row h.at h.equation h.less h.rise h.short h.weighed h.says

-- ---- a trail
size_shifts : (end : ℕ) (weigh : ℕ → ℤ) (rows : List WRow) (first v : ℕ) (by : ℤ) (ties : List Tie)
    → IsTrail (IsSizedTie end weigh rows) first v by ties → AreShifts (rows_under weigh rows) (pos 1) (negsuc 0)
    (length ties * 4097) first v by (size_entries rows ties)
size_shifts end weigh rows first v by [] h = no_shift (rows_under weigh rows) (pos 1) (negsuc 0) first v by h.0 h.1
size_shifts end weigh rows first v by (tie ∷ rest) h =
    subst (λ (n : ℕ). AreShifts (rows_under weigh rows) (pos 1) (negsuc 0) n first v by (size_entries rows (tie ∷ rest)))
    (one_more (length rest)) (shift_more (rows_under weigh rows) (pos 1) (negsuc 0) most_of_tie (length rest * 4097) first v h.2
    by tie (size_tie_entries rows tie) (size_entries rows rest) h.1 h.3 (size_shift end weigh rows tie h.0)
    (size_shifts end weigh rows first tie.link.from h.2 rest h.4))
  where
    one_more : (n : ℕ) → 4097 + n * 4097 ≡ suc n * 4097
    one_more n = omega arith

-- ---- the whole
rising_ties : (rows : List WRow) (ties : List Tie) → All (IsSizeTie rows) ties → AreRising ties → All (IsRisingTie rows) ties
rising_ties rows ties all rising i d low = (all i d low, rising i d low)

pub size_reasoned : (end : ℕ) (weigh : ℕ → ℤ) (rows : List WRow) (sizes : ℕ → Bool) (ties : List Tie) (start finish : ℕ)
    (known : Known) (come : Come) (row : ℕ) → AreRows end rows → All (IsOneKind sizes) rows → All (IsWeighed weigh) rows
    → sizes start ≡ true → finish < 65536 → AreSizeTies rows ties → IsLongest ties start known
    → get_or known finish None ≡ Some come → zero_from start 0 rows ≡ Some row
    → IsReasoned (rows_under weigh rows) ((start, pos 1) ∷ []) ((finish, pos 1) ∷ []) 268496895 0 (size_made rows come row known finish)
size_reasoned end weigh rows sizes ties start finish known come row fit kinds weighed size low are longest is first =
    let trail = trail_from (length known) known finish in
    let back = trail_is (IsRisingTie rows) ties start known (rising_ties rows ties are.in_rows are.rising) are.rising longest.linked
    (length known) finish come (known_within known finish come is) is in
    let sized = sized_trail end weigh rows sizes start finish come.by trail fit kinds weighed size back in
    let short = trail_short (IsRisingTie rows) start finish come.by trail (λ tie h. h.1) back in
    let shifts = size_shifts end weigh rows start finish come.by trail sized.trail in
    let bound = zero_row_is rows start row first in
    record {
      coefficients = λ x. shifts.coefficients x ∙ once (unit x start) (unit x finish);
      constant = ap (λ (z : ℤ). z +ℤ come.by) shifts.constant ∙ nothing come.by;
      allowed = shifts.allowed;
      small = λ n. through (unsigned_abs (coefficient_of n (size_entries rows trail))) (length trail) finish (shifts.small n) short low;
      bound_coefficients = λ x. row_value weigh rows row start (pos 1) (pos 0) (pos 1) x bound ∙ alone (unit x start);
      bound_constant = row_constant weigh rows row start (pos 1) (pos 0) (pos 1) bound ∙ mul-zero_ℤ (pos 1);
      bound_allowed = row_allowed weigh rows row start (pos 1) (pos 0) (pos 1) bound (omega (arith, ints));
      bound_small = λ n. one (eqb row n);
      base = omega arith;
    }
  where
    once : (a b : ℤ) → pos 1 *ℤ (a -ℤ b) ≡ a -ℤ b
    once a b = omega (arith, ints)

    alone : (a : ℤ) → pos 1 *ℤ a ≡ a
    alone a = omega (arith, ints)

    nothing : (a : ℤ) → negsuc 0 *ℤ a +ℤ a ≡ pos 0
    nothing a = omega (arith, ints)

    through : (a n v : ℕ) → a ≤ n * 4097 → n ≤ v → v < 65536 → a ≤ 268496895
    through a n v h k l = omega (arith, h, k, l)

    one : (here : Bool) → unsigned_abs (cond here (pos 1) (pos 0) +ℤ pos 0) ≤ 268496895
    one true = omega (arith, ints)
    one false = omega (arith, ints)
