-- The other parts of a size drop out by the rows that they are at least 0.
use Rattle.std.proofs.Common.{◌≡◌, ◌⊎◌, inl, inr, ℕ, zero, suc, ◌<◌, ◌≤◌, Bool, true, false, cond, eqb, List, [], ◌∷◌, ◌++◌, ℤ, pos}
use Rattle.std.proofs.Common.{negsuc, ◌+ℤ◌, ◌-ℤ◌, ◌*ℤ◌, ◌≤ℤ◌, Option, Some, None, subst, ap, arith, refl, ◌∙◌, sym}
use Rattle.std.specs.Prelude.{◌&&◌, slice_get, unsigned_abs}
use Rattle.std.specs.Ordering.{int_eq}
use Rattle.std.proofs.lemmas.Bool.{and_parts, eqb-true, eq-eqb, false≢true, and_from, false_from_ne_true}
use Rattle.std.proofs.lemmas.Bool.Decides.{Decides-int_eq}
use Rattle.std.proofs.lemmas.Int.{ints}
use Rattle.std.proofs.lemmas.Option.{same_Some, none-some}
use Rattle.lin_core.proofs.Coefficients.{coefficient_both}
use Rattle.list_views.proofs.Orders.{zero_times}
use Rattle.list_views.proofs.Ring.{plus_times}
use Rattle.lin_core.specs.declared.rows.WRow.{WRow}
use Rattle.lin_core.specs.Combination.{sum_of, AllAllowed}
use Rattle.lin_core.specs.Rows.{RiseFrom, coefficient_of}
use Rattle.lin_core.specs.Weights.{rows_under}
use Rattle.lin_core.proofs.Signs.{mul-zero_ℤ}
use Rattle.rank_forms.specs.declared.rule_links.links.Link.{Link}
use Rattle.rank_forms.specs.inner.Following.{unit}
use Rattle.rank_forms.specs.rule_links.Links.{HasBound}
use Rattle.rank_forms.specs.Reasons.{part_entries, part_entry, part_times, row_times}
use Rattle.rank_forms.specs.rule_links.Falls.{is_zero, zero_from}
use Rattle.rank_forms.specs.rule_links.Ties.{is_bound}
use Rattle.rank_forms.proofs.Rests.{IsRest, rest_all, rest_first, rest_more}
use Rattle.rank_forms.proofs.IntRows.{IsRowOf, row_of}
use Rattle.rank_forms.proofs.RowValues.{row_allowed, row_constant, row_value}
use Rattle.rank_forms.proofs.Tied.{bound_told, found_cases}
use Rattle.rank_forms.proofs.Trailed.{allowed_both, sum_both}

-- ---- the row that a variable is at least 0

zero_cases : (test : Bool) (variable n k : ℕ) (all : List WRow) (row : WRow) (later : Option ℕ) → is_zero variable row ≡ test
    → slice_get all n ≡ Some row → (later ≡ Some k → IsRowOf all k variable (pos 1) (pos 0)) → cond test (Some n) later ≡ Some k
    → IsRowOf all k variable (pos 1) (pos 0)
zero_cases true variable n k all row later t is more e =
    let parts = and_parts (is_bound variable (pos 1) row) (int_eq row.constant (pos 0)) t in
    subst (λ (m : ℕ). IsRowOf all m variable (pos 1) (pos 0)) (same_Some n k e)
    (subst (IsRowOf all n variable (pos 1)) ((Decides-int_eq row.constant (pos 0)).0 parts.1)
    (row_of all n variable (pos 1) row is parts.0))
zero_cases false variable n k all row later t is more e = more e

zero_from_is : (variable n k : ℕ) (all rows : List WRow) → IsRest all n rows → zero_from variable n rows ≡ Some k
    → IsRowOf all k variable (pos 1) (pos 0)
zero_from_is variable n k all [] h e = absurd (none-some k e)
zero_from_is variable n k all (row ∷ rest) h e = zero_cases (is_zero variable row) variable n k all row
    (zero_from variable (suc n) rest) refl (rest_first all n row rest h)
    (λ f. zero_from_is variable (suc n) k all rest (rest_more all n row rest h) f) e

pub zero_row_is : (rows : List WRow) (variable k : ℕ) → zero_from variable 0 rows ≡ Some k → IsRowOf rows k variable (pos 1) (pos 0)
zero_row_is rows variable k e = zero_from_is variable 0 k rows rows (rest_all rows) e

zero_found_from : (variable n k : ℕ) (rows : List WRow) (row : WRow) → slice_get rows k ≡ Some row → is_zero variable row ≡ true
    → (m : ℕ) × (zero_from variable n rows ≡ Some m)
zero_found_from variable n k [] row is e = absurd (cc)
zero_found_from variable n zero (first ∷ rest) row is e = found_cases (is_zero variable first) n (zero_from variable (suc n) rest)
    (λ f. absurd (false≢true (sym f ∙ ap (is_zero variable) (same_Some first row is) ∙ e)))
zero_found_from variable n (suc k) (first ∷ rest) row is e = found_cases (is_zero variable first) n
    (zero_from variable (suc n) rest) (λ f. zero_found_from variable (suc n) k rest row is e)

pub zero_row_found : (rows : List WRow) (variable : ℕ) → HasBound rows variable (pos 1) (pos 0) → (k : ℕ)
    × (zero_from variable 0 rows ≡ Some k)
zero_row_found rows variable h = zero_found_from variable 0 h.among.0 rows h.row h.among.1
    (and_from (is_bound variable (pos 1) h.row) (int_eq h.row.constant (pos 0)) (bound_told rows variable (pos 1) (pos 0) h)
    ((Decides-int_eq h.row.constant (pos 0)).1 h.number))

-- ---- a part
abbrev pub IsPart : List WRow → Link → ℕ × ℤ → Type 0
IsPart rows link term = (term.0 ≡ link.from) ⊎ ((term.1 ≤ℤ negsuc 0) × HasBound rows term.0 (pos 1) (pos 0))

abbrev pub AreParts : List WRow → Link → List (ℕ × ℤ) → Type 0
AreParts rows link [] = Unit {0}
AreParts rows link (term ∷ rest) = IsPart rows link term × AreParts rows link rest

-- how often a variable stands in terms
abbrev pub times_in : ℕ → List (ℕ × ℤ) → ℤ
times_in variable [] = pos 0
times_in variable (term ∷ rest) = cond (eqb term.0 variable) (pos 1) (pos 0) +ℤ times_in variable rest

part_low : (rows : List WRow) (link : Link) (term : ℕ × ℤ) → eqb term.0 link.from ≡ false → IsPart rows link term
    → (term.1 ≤ℤ negsuc 0) × HasBound rows term.0 (pos 1) (pos 0)
part_low rows link term e h = elim h as (λ o. (term.1 ≤ℤ negsuc 0) × HasBound rows term.0 (pos 1) (pos 0)) [
  | inl s ↦ absurd (false≢true (sym e ∙ eq-eqb term.0 link.from s))
  | inr p ↦ p
]

-- what an entry adds: nothing where the term is the size, else the term's negative, and once less where the link leads to it
abbrev part_by : Bool → Bool → ℤ → ℤ
part_by true there c = pos 0
part_by false true c = pos 0 -ℤ (c +ℤ pos 1)
part_by false false c = pos 0 -ℤ c

entry_row : (there : Bool) (weigh : ℕ → ℤ) (rows : List WRow) (link : Link) (term : ℕ × ℤ) (k x : ℕ) → eqb term.0 link.to ≡ there
    → IsRowOf rows k term.0 (pos 1) (pos 0) → sum_of (λ row. coefficient_of x row.terms) (rows_under weigh rows)
    ((k, part_times link.to term) ∷ []) ≡ part_by false there term.1 *ℤ unit x term.0
entry_row true weigh rows link term k x t h = ap
    (λ (z : ℤ). sum_of (λ row. coefficient_of x row.terms) (rows_under weigh rows) ((k, z) ∷ [])) (times_is (eqb term.0 link.to) t)
    ∙ row_value weigh rows k term.0 (pos 1) (pos 0) (pos 0 -ℤ (term.1 +ℤ pos 1)) x h
  where
    times_is : (test : Bool) → test ≡ true → cond test (pos 0 -ℤ (term.1 +ℤ pos 1)) (pos 0 -ℤ term.1) ≡ pos 0 -ℤ (term.1 +ℤ pos 1)
    times_is true e = refl
    times_is false e = absurd (cc)
entry_row false weigh rows link term k x t h = ap
    (λ (z : ℤ). sum_of (λ row. coefficient_of x row.terms) (rows_under weigh rows) ((k, z) ∷ [])) (times_is (eqb term.0 link.to) t)
    ∙ row_value weigh rows k term.0 (pos 1) (pos 0) (pos 0 -ℤ term.1) x h
  where
    times_is : (test : Bool) → test ≡ false → cond test (pos 0 -ℤ (term.1 +ℤ pos 1)) (pos 0 -ℤ term.1) ≡ pos 0 -ℤ term.1
    times_is true e = absurd (cc)
    times_is false e = refl

-- ---- what an entry says
record IsEntry (weigh : ℕ → ℤ) (rows : List WRow) (link : Link) (term : ℕ × ℤ) (here there : Bool) : Type 0 where
  pub coefficients : (x : ℕ) → sum_of (λ row. coefficient_of x row.terms) (rows_under weigh rows) (part_entry rows link term)
      ≡ part_by here there term.1 *ℤ unit x term.0
  pub constant : sum_of (λ row. row.constant) (rows_under weigh rows) (part_entry rows link term) ≡ pos 0
  pub allowed : AllAllowed (rows_under weigh rows) (part_entry rows link term)

part_size : (test : Bool) (c : ℤ) → c ≤ℤ negsuc 0 → pos 0 ≤ℤ cond test (pos 0 -ℤ (c +ℤ pos 1)) (pos 0 -ℤ c)
part_size true c h = omega (arith, ints, h)
part_size false c h = omega (arith, ints, h)

entry_none : (test : Bool) (list : List (ℕ × ℤ)) → test ≡ true → cond test [] list ≡ []
entry_none true list e = refl
entry_none false list e = absurd (cc)

entry_some : (test : Bool) (list : List (ℕ × ℤ)) → test ≡ false → cond test [] list ≡ list
entry_some true list e = absurd (cc)
entry_some false list e = refl

entry_is : (here there : Bool) (weigh : ℕ → ℤ) (rows : List WRow) (link : Link) (term : ℕ × ℤ) → eqb term.0 link.from ≡ here
    → eqb term.0 link.to ≡ there → IsPart rows link term → IsEntry weigh rows link term here there
entry_is true there weigh rows link term e f h =
    let none : part_entry rows link term ≡ [] = entry_none (eqb term.0 link.from)
    (row_times (zero_from term.0 0 rows) (part_times link.to term)) e in
    record {
      coefficients = λ x. ap (sum_of (λ row. coefficient_of x row.terms) (rows_under weigh rows)) none ∙ sym (zero_times (unit x term.0));
      constant = ap (sum_of (λ row. row.constant) (rows_under weigh rows)) none;
      allowed = subst (AllAllowed (rows_under weigh rows)) (sym none) tt;
    }
entry_is false there weigh rows link term e f h =
    let part = part_low rows link term e h in
    let found = zero_row_found rows term.0 part.1 in
    let row = zero_row_is rows term.0 found.0 found.1 in
    let one : part_entry rows link term ≡ (found.0, part_times link.to term) ∷ [] = entry_some (eqb term.0 link.from)
    (row_times (zero_from term.0 0 rows) (part_times link.to term)) e
    ∙ ap (λ (o : Option ℕ). row_times o (part_times link.to term)) found.1 in
    record {
      coefficients = λ x. ap (sum_of (λ row. coefficient_of x row.terms) (rows_under weigh rows)) one
          ∙ entry_row there weigh rows link term found.0 x f row;
      constant = ap (sum_of (λ row. row.constant) (rows_under weigh rows)) one
          ∙ row_constant weigh rows found.0 term.0 (pos 1) (pos 0) (part_times link.to term) row ∙ mul-zero_ℤ (part_times link.to term);
      allowed = subst (AllAllowed (rows_under weigh rows)) (sym one)
          (row_allowed weigh rows found.0 term.0 (pos 1) (pos 0) (part_times link.to term) row
          (part_size (eqb term.0 link.to) term.1 part.0));
    }

-- ---- all parts together
step_value : (here there at : Bool) (c s r p q : ℤ) → (here ≡ true → there ≡ true → ⊥) → s +ℤ r ≡ p -ℤ q
    → (part_by here there c *ℤ (cond at (pos 1) (pos 0) +ℤ pos 0) +ℤ s) +ℤ (cond at c (pos 0) +ℤ r)
    ≡ (cond here c (pos 0) *ℤ (cond at (pos 1) (pos 0) +ℤ pos 0) +ℤ p) -ℤ
    (cond there (pos 1) (pos 0) *ℤ (cond at (pos 1) (pos 0) +ℤ pos 0) +ℤ q)
step_value true true at c s r p q d e = absurd (d refl refl)
step_value true false true c s r p q d e = omega (arith, ints, e)
step_value true false false c s r p q d e = let z = mul-zero_ℤ c in omega (arith, ints, e, z)
step_value false true true c s r p q d e = omega (arith, ints, e)
step_value false true false c s r p q d e = let z = mul-zero_ℤ (pos 0 -ℤ (c +ℤ pos 1)) in omega (arith, ints, e, z)
step_value false false true c s r p q d e = omega (arith, ints, e)
step_value false false false c s r p q d e = let z = mul-zero_ℤ (pos 0 -ℤ c) in omega (arith, ints, e, z)

-- where the term is the one variable, its unit is that variable's
same_unit : (test : Bool) (a b x : ℕ) (c : ℤ) → eqb a b ≡ test → cond test c (pos 0) *ℤ unit x a ≡ cond test c (pos 0) *ℤ unit x b
same_unit true a b x c e = ap (λ (v : ℕ). c *ℤ unit x v) (eqb-true a b e)
same_unit false a b x c e = zero_times (unit x a) ∙ sym (zero_times (unit x b))

parts_value : (weigh : ℕ → ℤ) (rows : List WRow) (link : Link) (terms : List (ℕ × ℤ)) (x : ℕ) → link.from < link.to
    → AreParts rows link terms → sum_of (λ row. coefficient_of x row.terms) (rows_under weigh rows) (part_entries rows link terms)
    +ℤ coefficient_of x terms ≡ coefficient_of link.from terms *ℤ unit x link.from -ℤ times_in link.to terms *ℤ unit x link.to
parts_value weigh rows link [] x less h = nothing (unit x link.from) (unit x link.to)
  where
    nothing : (a b : ℤ) → pos 0 +ℤ pos 0 ≡ pos 0 *ℤ a -ℤ pos 0 *ℤ b
    nothing a b = let y = zero_times a in let z = zero_times b in omega (arith, ints, y, z)
parts_value weigh rows link (term ∷ rest) x less h =
    let here = eqb term.0 link.from in
    let there = eqb term.0 link.to in
    let S = sum_of (λ row. coefficient_of x row.terms) (rows_under weigh rows) (part_entries rows link rest) in
    let entry = entry_is here there weigh rows link term refl refl h.0 in
    ap (λ (z : ℤ). z +ℤ coefficient_of x (term ∷ rest))
    (sum_both (λ row. coefficient_of x row.terms) (rows_under weigh rows) (part_entry rows link term)
    (part_entries rows link rest) ∙ ap (λ (z : ℤ). z +ℤ S) (entry.coefficients x))
    ∙ step_value here there (eqb term.0 x) term.1 S (coefficient_of x rest) (coefficient_of link.from rest *ℤ unit x link.from)
    (times_in link.to rest *ℤ unit x link.to) (apart term.0 link.from link.to less)
    (parts_value weigh rows link rest x less h.1)
    ∙ ap (λ (z : ℤ). (z +ℤ coefficient_of link.from rest *ℤ unit x link.from) -ℤ
    (cond there (pos 1) (pos 0) *ℤ unit x term.0 +ℤ times_in link.to rest *ℤ unit x link.to))
    (same_unit here term.0 link.from x term.1 refl)
    ∙ ap (λ (z : ℤ). z -ℤ (cond there (pos 1) (pos 0) *ℤ unit x term.0 +ℤ times_in link.to rest *ℤ unit x link.to))
    (sym (plus_times (cond here term.1 (pos 0)) (coefficient_of link.from rest) (unit x link.from)))
    ∙ ap (λ (z : ℤ). coefficient_of link.from (term ∷ rest) *ℤ unit x link.from -ℤ
    (z +ℤ times_in link.to rest *ℤ unit x link.to)) (same_unit there term.0 link.to x (pos 1) refl)
    ∙ ap (λ (z : ℤ). coefficient_of link.from (term ∷ rest) *ℤ unit x link.from -ℤ z)
    (sym (plus_times (cond there (pos 1) (pos 0)) (times_in link.to rest) (unit x link.to)))
  where
    apart : (a b c : ℕ) → b < c → eqb a b ≡ true → eqb a c ≡ true → ⊥
    apart a b c less e f = let s = eqb-true a b e in let t = eqb-true a c f in omega (arith, less, s, t)

parts_constant : (weigh : ℕ → ℤ) (rows : List WRow) (link : Link) (terms : List (ℕ × ℤ)) → AreParts rows link terms
    → sum_of (λ row. row.constant) (rows_under weigh rows) (part_entries rows link terms) ≡ pos 0
parts_constant weigh rows link [] h = refl
parts_constant weigh rows link (term ∷ rest) h =
    let entry = entry_is (eqb term.0 link.from) (eqb term.0 link.to) weigh rows link term refl refl h.0 in
    sum_both (λ row. row.constant) (rows_under weigh rows) (part_entry rows link term) (part_entries rows link rest)
    ∙ ap (λ (z : ℤ). z +ℤ sum_of (λ row. row.constant) (rows_under weigh rows) (part_entries rows link rest)) entry.constant
    ∙ ap (λ (z : ℤ). pos 0 +ℤ z) (parts_constant weigh rows link rest h.1)

parts_allowed : (weigh : ℕ → ℤ) (rows : List WRow) (link : Link) (terms : List (ℕ × ℤ)) → AreParts rows link terms
    → AllAllowed (rows_under weigh rows) (part_entries rows link terms)
parts_allowed weigh rows link [] h = tt
parts_allowed weigh rows link (term ∷ rest) h = allowed_both (rows_under weigh rows) (part_entry rows link term)
    (part_entries rows link rest) (entry_is (eqb term.0 link.from) (eqb term.0 link.to) weigh rows link term refl refl h.0).allowed
    (parts_allowed weigh rows link rest h.1)

-- ---- no row counts often: different parts have different rows
abbrev pub AreShortTerms : List (ℕ × ℤ) → Type 0
AreShortTerms [] = Unit {0}
AreShortTerms (term ∷ rest) = (unsigned_abs term.1 ≤ 4096) × AreShortTerms rest

one_term : (a b : ℕ) (c d : ℤ) → ◌≡◌ {A = List (ℕ × ℤ)} ((a, c) ∷ []) ((b, d) ∷ []) → a ≡ b
one_term a b c d e = ap first e
  where
    first : List (ℕ × ℤ) → ℕ
    first [] = 0
    first (term ∷ rest) = term.0

same_variable : (rows : List WRow) (n v w : ℕ) → IsRowOf rows n v (pos 1) (pos 0) → IsRowOf rows n w (pos 1) (pos 0) → v ≡ w
same_variable rows n v w h k = one_term v w (pos 1) (pos 1)
    (sym h.terms ∙ ap (λ (r : WRow). r.terms) (same_Some h.row k.row (sym h.at ∙ k.at)) ∙ k.terms)

-- an entry counts a row, or none
data_none : (here : Bool) (found : Option ℕ) (t : ℤ) (n : ℕ) → (here ≡ false → (k : ℕ) → found ≡ Some k → eqb k n ≡ false)
    → coefficient_of n (cond here [] (row_times found t)) ≡ pos 0
data_none true found t n h = refl
data_none false None t n h = refl
data_none false (Some k) t n h = ap (λ (b : Bool). cond b t (pos 0) +ℤ pos 0) (h refl k refl)

data_small : (here : Bool) (found : Option ℕ) (t : ℤ) (n most : ℕ) → unsigned_abs t ≤ most
    → unsigned_abs (coefficient_of n (cond here [] (row_times found t))) ≤ most
data_small true found t n most h = omega arith
data_small false None t n most h = omega arith
data_small false (Some k) t n most h = one_small (eqb k n) t most h
  where
    one_small : (b : Bool) (t : ℤ) (most : ℕ) → unsigned_abs t ≤ most → unsigned_abs (cond b t (pos 0) +ℤ pos 0) ≤ most
    one_small true t most h = omega (arith, ints, h)
    one_small false t most h = omega (arith, ints)

-- rows of variables that come later
parts_none : (rows : List WRow) (link : Link) (n v low end : ℕ) (terms : List (ℕ × ℤ)) → IsRowOf rows n v (pos 1) (pos 0) → v < low
    → RiseFrom low end terms → coefficient_of n (part_entries rows link terms) ≡ pos 0
parts_none rows link n v low end [] row less rise = refl
parts_none rows link n v low end (term ∷ rest) row less rise =
    coefficient_both n (part_entry rows link term) (part_entries rows link rest)
    ∙ both (coefficient_of n (part_entry rows link term)) (coefficient_of n (part_entries rows link rest))
    (data_none (eqb term.0 link.from) (zero_from term.0 0 rows) (part_times link.to term) n
    (λ e k f. false_from_ne_true (eqb k n)
    (λ t. above v low term.0 less rise.0
    (same_variable rows n v term.0 row
    (subst (λ (m : ℕ). IsRowOf rows m term.0 (pos 1) (pos 0)) (eqb-true k n t) (zero_row_is rows term.0 k f))))))
    (parts_none rows link n v (suc term.0) end rest row (under v low term.0 less rise.0) rise.2)
  where
    both : (a b : ℤ) → a ≡ pos 0 → b ≡ pos 0 → a +ℤ b ≡ pos 0
    both a b e f = omega (arith, ints)

    above : (v low w : ℕ) → v < low → low ≤ w → v ≡ w → ⊥
    above v low w h k e = omega (arith, h, k, e)

    under : (v low w : ℕ) → v < low → low ≤ w → v < suc w
    under v low w h k = omega (arith, h, k)

times_short : (test : Bool) (c : ℤ) → c ≤ℤ negsuc 0 → unsigned_abs c ≤ 4096
    → unsigned_abs (cond test (pos 0 -ℤ (c +ℤ pos 1)) (pos 0 -ℤ c)) ≤ 4096
times_short true c h k = omega (arith, ints, h, k)
times_short false c h k = omega (arith, ints, h, k)

only : (a b : ℤ) → a ≡ pos 0 → unsigned_abs b ≤ 4096 → unsigned_abs (a +ℤ b) ≤ 4096
only a b e h = omega (arith, ints, e, h)

alone : (a b : ℤ) → b ≡ pos 0 → unsigned_abs a ≤ 4096 → unsigned_abs (a +ℤ b) ≤ 4096
alone a b e h = omega (arith, ints, e, h)

row_small : (test : Bool) (rows : List WRow) (link : Link) (n k end : ℕ) (term : ℕ × ℤ) (rest : List (ℕ × ℤ)) → eqb k n ≡ test
    → zero_from term.0 0 rows ≡ Some k → RiseFrom (suc term.0) end rest → term.1 ≤ℤ negsuc 0 → unsigned_abs term.1 ≤ 4096
    → unsigned_abs (coefficient_of n (part_entries rows link rest)) ≤ 4096
    → unsigned_abs (coefficient_of n (part_entry rows link term) +ℤ coefficient_of n (part_entries rows link rest)) ≤ 4096
row_small true rows link n k end term rest t f rise part short more = alone (coefficient_of n (part_entry rows link term))
    (coefficient_of n (part_entries rows link rest))
    (parts_none rows link n term.0 (suc term.0) end rest
    (subst (λ (m : ℕ). IsRowOf rows m term.0 (pos 1) (pos 0)) (eqb-true k n t) (zero_row_is rows term.0 k f)) (omega arith) rise)
    (data_small (eqb term.0 link.from) (zero_from term.0 0 rows) (part_times link.to term) n 4096
    (times_short (eqb term.0 link.to) term.1 part short))
row_small false rows link n k end term rest t f rise part short more = only (coefficient_of n (part_entry rows link term))
    (coefficient_of n (part_entries rows link rest))
    (data_none (eqb term.0 link.from) (zero_from term.0 0 rows) (part_times link.to term) n
    (λ d m g. ap (λ (y : ℕ). eqb y n) (same_Some m k (sym g ∙ f)) ∙ t)) more

part_small : (here : Bool) (rows : List WRow) (link : Link) (n end : ℕ) (term : ℕ × ℤ) (rest : List (ℕ × ℤ))
    → eqb term.0 link.from ≡ here → RiseFrom (suc term.0) end rest → IsPart rows link term → unsigned_abs term.1 ≤ 4096
    → unsigned_abs (coefficient_of n (part_entries rows link rest)) ≤ 4096
    → unsigned_abs (coefficient_of n (part_entry rows link term) +ℤ coefficient_of n (part_entries rows link rest)) ≤ 4096
part_small true rows link n end term rest e rise part short more = only (coefficient_of n (part_entry rows link term))
    (coefficient_of n (part_entries rows link rest))
    (data_none (eqb term.0 link.from) (zero_from term.0 0 rows) (part_times link.to term) n
    (λ d m g. absurd (false≢true (sym d ∙ e)))) more
part_small false rows link n end term rest e rise part short more =
    let low = part_low rows link term e part in
    let found = zero_row_found rows term.0 low.1 in
    row_small (eqb found.0 n) rows link n found.0 end term rest refl found.1 rise low.0 short more

parts_small : (rows : List WRow) (link : Link) (n low end : ℕ) (terms : List (ℕ × ℤ)) → RiseFrom low end terms
    → AreParts rows link terms → AreShortTerms terms → unsigned_abs (coefficient_of n (part_entries rows link terms)) ≤ 4096
parts_small rows link n low end [] rise parts short = omega arith
parts_small rows link n low end (term ∷ rest) rise parts short = subst (λ (z : ℤ). unsigned_abs z ≤ 4096)
    (sym (coefficient_both n (part_entry rows link term) (part_entries rows link rest)))
    (part_small (eqb term.0 link.from) rows link n end term rest refl rise.2 parts.0 short.0
    (parts_small rows link n (suc term.0) end rest rise.2 parts.1 short.1))

pub record AreOut (weigh : ℕ → ℤ) (rows : List WRow) (link : Link) (terms : List (ℕ × ℤ)) : Type 0 where
  pub coefficients : (x : ℕ) → sum_of (λ row. coefficient_of x row.terms) (rows_under weigh rows) (part_entries rows link terms) +ℤ
      coefficient_of x terms ≡ coefficient_of link.from terms *ℤ unit x link.from -ℤ times_in link.to terms *ℤ unit x link.to
  pub constant : sum_of (λ row. row.constant) (rows_under weigh rows) (part_entries rows link terms) ≡ pos 0
  pub allowed : AllAllowed (rows_under weigh rows) (part_entries rows link terms)
  pub small : (n : ℕ) → unsigned_abs (coefficient_of n (part_entries rows link terms)) ≤ 4096

pub parts_out : (weigh : ℕ → ℤ) (rows : List WRow) (link : Link) (end : ℕ) (terms : List (ℕ × ℤ)) → link.from < link.to
    → RiseFrom 0 end terms → AreParts rows link terms → AreShortTerms terms → AreOut weigh rows link terms
parts_out weigh rows link end terms less rise parts short = record {
  coefficients = λ x. parts_value weigh rows link terms x less parts;
  constant = parts_constant weigh rows link terms parts;
  allowed = parts_allowed weigh rows link terms parts;
  small = λ n. parts_small rows link n 0 end terms rise parts short;
}
