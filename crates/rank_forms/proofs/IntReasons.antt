-- Why multiples of ints fall along a rule.
use Rattle.std.proofs.Common.{◌≡◌, ℕ, zero, suc, ◌+◌, ◌*◌, ◌<◌, ◌≤◌, ◌^◌, Bool, true, false, cond, not, eqb, List, [], ◌∷◌, length}
use Rattle.std.proofs.Common.{get_or, ℤ, pos, negsuc, ◌+ℤ◌, ◌-ℤ◌, ◌*ℤ◌, ◌≤ℤ◌, Option, Some, None, subst, ap, arith, refl, ◌∙◌, sym}
use Rattle.std.specs.Prelude.{◌&&◌, slice_get, unsigned_abs, int_lt, nat_lt}
use Rattle.std.specs.List.{All}
use Rattle.std.proofs.lemmas.Bool.{and_parts, eqb-true, false≢true, and_from}
use Rattle.std.proofs.lemmas.Bool.Decides.{nat_tests}
use Rattle.std.proofs.lemmas.Int.{ints, unsigned_abs-mul}
use Rattle.std.proofs.lemmas.Option.{same_Some, none-some}
use Rattle.list_views.proofs.Orders.{zero_times, plus_zero}
use Rattle.list_views.proofs.Ring.{times_plus, times_minus, times_assoc, plus_times}
use Rattle.lin_core.specs.declared.rows.RowKind.{RowKind}
use Rattle.lin_core.specs.declared.rows.RowKind.TheVariants.{AtLeastZero, IsZero}
use Rattle.lin_core.specs.declared.rows.WRow.{WRow}
use Rattle.lin_core.specs.Combination.{sum_of, AllAllowed}
use Rattle.lin_core.specs.Rows.{coefficient_of}
use Rattle.lin_core.specs.Weights.{AreRows, row_under, rows_under, unweighed}
use Rattle.lin_core.proofs.Signs.{mul-zero_ℤ}
use Rattle.rank_forms.specs.declared.following.BoundRow.{BoundRow}
use Rattle.rank_forms.specs.declared.rule_links.links.Beside.{Beside}
use Rattle.rank_forms.specs.declared.rule_links.links.Come.{Come}
use Rattle.rank_forms.specs.declared.rule_links.links.Link.{Link}
use Rattle.rank_forms.specs.declared.rule_links.links.Tie.{Tie}
use Rattle.rank_forms.specs.inner.Following.{unit}
use Rattle.rank_forms.specs.Graphs.{HasClose, IsShort}
use Rattle.rank_forms.specs.Reasons.{beside_entries, close_from, int_entries, int_made, int_tie_entries, is_close, often, side}
use Rattle.rank_forms.specs.Reasons.{signed, taken_out}
use Rattle.rank_forms.specs.rule_links.Ties.{IsFinished, Known, is_bound, ties_from, trail_from}
use Rattle.rank_forms.proofs.FallRows.{Each}
use Rattle.rank_forms.proofs.Rests.{IsRest, rest_all, rest_first, rest_more}
use Rattle.rank_forms.proofs.Finished.{AreLow, gone_back}
use Rattle.rank_forms.proofs.IntRows.{AreBeside, IsIntTie, IsRowOf, IsThree, IsTwo, Leads, SaysInt, row_of, ties_ways}
use Rattle.rank_forms.proofs.Reasoned.{IsReasoned}
use Rattle.rank_forms.proofs.RowValues.{row_allowed, row_constant, row_value, under_constant, under_terms, zero_allowed}
use Rattle.rank_forms.proofs.Stepped.{under_at}
use Rattle.rank_forms.proofs.Tied.{bound_told}
use Rattle.rank_forms.proofs.Trailed.{AreShifts, IsShift, IsTrail, no_shift, shift_more}

-- ---- so many times a number, or its negative
signed_times : (t d : ℤ) (back : Bool) → signed t back *ℤ d ≡ t *ℤ signed d back
signed_times t d false = refl
signed_times t d true = less t d
  where
    less : (t d : ℤ) → (pos 0 -ℤ t) *ℤ d ≡ t *ℤ (pos 0 -ℤ d)
    less t d = moved ((pos 0 -ℤ t) *ℤ d) (t *ℤ d) (sum_zero t d)
        ∙ sym (times_minus t (pos 0) d ∙ ap (λ (z : ℤ). z -ℤ t *ℤ d) (mul-zero_ℤ t))
      where
        sum_zero : (t d : ℤ) → (pos 0 -ℤ t) *ℤ d +ℤ t *ℤ d ≡ pos 0
        sum_zero t d = sym (plus_times (pos 0 -ℤ t) t d) ∙ ap (λ (z : ℤ). z *ℤ d) (back_zero t) ∙ zero_times d
          where
            back_zero : (t : ℤ) → (pos 0 -ℤ t) +ℤ t ≡ pos 0
            back_zero t = omega (arith, ints)

        moved : (a b : ℤ) → a +ℤ b ≡ pos 0 → a ≡ pos 0 -ℤ b
        moved a b e = omega (arith, ints)

signed_small : (t : ℤ) (back : Bool) (n : ℕ) → unsigned_abs t ≤ n → unsigned_abs (signed t back) ≤ n
signed_small t false n h = h
signed_small t true n h = omega (arith, ints, h)

leads_value : (back : Bool) (plus minus : ℕ) (link : Link) (x : ℕ) → Leads back plus minus link
    → signed (unit x plus -ℤ unit x minus) back ≡ unit x link.from -ℤ unit x link.to
leads_value false plus minus link x h = ap (λ (v : ℕ). unit x v -ℤ unit x minus) (sym h.0)
    ∙ ap (λ (v : ℕ). unit x link.from -ℤ unit x v) (sym h.1)
leads_value true plus minus link x h = turned (unit x plus) (unit x minus) ∙ ap (λ (v : ℕ). unit x v -ℤ unit x plus) (sym h.0)
    ∙ ap (λ (v : ℕ). unit x link.from -ℤ unit x v) (sym h.1)
  where
    turned : (a b : ℤ) → pos 0 -ℤ (a -ℤ b) ≡ b -ℤ a
    turned a b = omega (arith, ints)

-- ---- the variable beside is taken out
record IsOut (rows : List WRow) (variable : ℕ) (number product : ℤ) (entries : List (ℕ × ℤ)) : Type 0 where
  pub row : ℕ
  pub times : ℤ
  pub is : entries ≡ (row, times) ∷ []
  pub coefficients : (x : ℕ) → sum_of (λ row. coefficient_of x row.terms) (rows_under unweighed rows) entries ≡ pos 0 -ℤ product *ℤ
      unit x variable
  pub constant : sum_of (λ row. row.constant) (rows_under unweighed rows) entries ≡ product *ℤ number
  pub allowed : AllAllowed (rows_under unweighed rows) entries
  pub small : unsigned_abs times ≤ unsigned_abs product
  pub there : WRow
  pub at : slice_get rows row ≡ Some there
  pub inequality : there.kind ≡ AtLeastZero

out_cases : (test : Bool) (rows : List WRow) (least most variable : ℕ) (number product : ℤ) → int_lt (pos 0) product ≡ test
    → AreBeside rows least most variable number
    → IsOut rows variable number product (cond test ((most, product) ∷ []) ((least, pos 0 -ℤ product) ∷ []))
out_cases true rows least most variable number product e h = record {
  row = most;
  times = product;
  is = refl;
  coefficients = λ x. row_value unweighed rows most variable (negsuc 0) number product x h.above ∙ down (eqb variable x) product;
  constant = row_constant unweighed rows most variable (negsuc 0) number product h.above;
  allowed = row_allowed unweighed rows most variable (negsuc 0) number product h.above (omega (arith, ints, e));
  small = omega arith;
  there = h.above.row;
  at = h.above.at;
  inequality = h.above.inequality;
}
  where
    down : (here : Bool) (p : ℤ) → p *ℤ (cond here (negsuc 0) (pos 0) +ℤ pos 0) ≡ pos 0 -ℤ p *ℤ (cond here (pos 1) (pos 0) +ℤ pos 0)
    down true p = omega (arith, ints)
    down false p = let z = mul-zero_ℤ p in omega (arith, ints, z)
out_cases false rows least most variable number product e h = record {
  row = least;
  times = pos 0 -ℤ product;
  is = refl;
  coefficients = λ x. row_value unweighed rows least variable (pos 1) h.low (pos 0 -ℤ product) x h.below ∙ up (eqb variable x) product;
  constant = row_constant unweighed rows least variable (pos 1) h.low (pos 0 -ℤ product) h.below ∙ signed_times product h.low true
      ∙ ap (λ (z : ℤ). product *ℤ z) (less h.low number h.opposite);
  allowed = row_allowed unweighed rows least variable (pos 1) h.low (pos 0 -ℤ product) h.below (omega (arith, ints, e));
  small = omega (arith, ints);
  there = h.below.row;
  at = h.below.at;
  inequality = h.below.inequality;
}
  where
    up : (here : Bool) (p : ℤ) → (pos 0 -ℤ p) *ℤ (cond here (pos 1) (pos 0) +ℤ pos 0) ≡ pos 0 -ℤ p *ℤ (cond here (pos 1) (pos 0) +ℤ pos 0)
    up true p = omega (arith, ints)
    up false p = let z = mul-zero_ℤ (pos 0 -ℤ p) in let y = mul-zero_ℤ p in omega (arith, ints, z, y)

    less : (a b : ℤ) → a +ℤ b ≡ pos 0 → pos 0 -ℤ a ≡ b
    less a b e = omega (arith, ints)

-- ---- a tie
abbrev most_of_tie : ℕ
most_of_tie = 16384

one_small : (here : Bool) (t : ℤ) (n : ℕ) → unsigned_abs t ≤ n → unsigned_abs (cond here t (pos 0) +ℤ pos 0) ≤ n
one_small true t n h = omega (arith, ints, h)
one_small false t n h = omega (arith, ints)

apart_small : (p q : Bool) (a b : ℤ) (n : ℕ) → (p ≡ true → q ≡ true → ⊥) → unsigned_abs a ≤ n → unsigned_abs b ≤ n
    → unsigned_abs (cond p a (pos 0) +ℤ (cond q b (pos 0) +ℤ pos 0)) ≤ n
apart_small true true a b n d h k = absurd (d refl refl)
apart_small true false a b n d h k = omega (arith, ints, h)
apart_small false true a b n d h k = omega (arith, ints, k)
apart_small false false a b n d h k = omega (arith, ints)

not_both : (kind : RowKind) → kind ≡ IsZero → kind ≡ AtLeastZero → ⊥
not_both kind e f = absurd (cc)

other_row : (rows : List WRow) (m n x : ℕ) (a b : WRow) → slice_get rows m ≡ Some a → slice_get rows n ≡ Some b → a.kind ≡ IsZero
    → b.kind ≡ AtLeastZero → eqb m x ≡ true → eqb n x ≡ true → ⊥
other_row rows m n x a b e f z l p q =
    let same : m ≡ n = eqb-true m x p ∙ sym (eqb-true n x q) in
    let one = same_Some a b (sym e ∙ ap (slice_get rows) same ∙ f) in
    not_both a.kind z (ap (λ (r : WRow). r.kind) one ∙ l)

two_shift : (end : ℕ) (rows : List WRow) (times : ℤ) (tie : Tie) (row : WRow) → unsigned_abs times ≤ 4
    → slice_get rows tie.row ≡ Some row → row.kind ≡ IsZero → row.weights ≡ [] → IsTwo row tie.back tie.link
    → IsShift (rows_under unweighed rows) times times most_of_tie tie ((tie.row, signed times tie.back) ∷ [])
two_shift end rows times tie row small is kind weights h = record {
  coefficients = λ x. under_terms unweighed rows tie.row (signed times tie.back) row x [] is
      ∙ plus_zero (signed times tie.back *ℤ coefficient_of x row.terms)
      ∙ ap (λ (z : ℤ). signed times tie.back *ℤ z) (h.coefficients x) ∙ signed_times times (unit x h.plus -ℤ unit x h.minus)
      tie.back ∙ ap (λ (z : ℤ). times *ℤ z) (leads_value tie.back h.plus h.minus tie.link x h.leads);
  constant = under_constant unweighed rows tie.row (signed times tie.back) row [] is weights
      ∙ plus_zero (signed times tie.back *ℤ row.constant) ∙ signed_times times row.constant tie.back
      ∙ ap (λ (z : ℤ). times *ℤ z) (sym h.adds);
  allowed = ((row_under unweighed row, under_at unweighed rows tie.row row is, zero_allowed row.kind (signed times tie.back) kind), tt);
  small = λ n. one_small (eqb tie.row n) (signed times tie.back) most_of_tie
      (let s = signed_small times tie.back 4 small in omega (arith, s));
}

product_small : (t m : ℤ) → unsigned_abs t ≤ 4 → unsigned_abs m ≤ 4096 → unsigned_abs (t *ℤ m) ≤ 16384
product_small t m h k = let e = unsigned_abs-mul t m in let p = most (unsigned_abs t) (unsigned_abs m) h k in omega (arith, e, p)
  where
    most : (a b : ℕ) → a ≤ 4 → b ≤ 4096 → a * b ≤ 16384
    most zero b h k = omega arith
    most (suc zero) b h k = omega (arith, k)
    most (suc (suc zero)) b h k = omega (arith, k)
    most (suc (suc (suc zero))) b h k = omega (arith, k)
    most (suc (suc (suc (suc zero)))) b h k = omega (arith, k)
    most (suc (suc (suc (suc (suc a))))) b h k = absurd (omega (arith, h))

three_shift : (end : ℕ) (rows : List WRow) (times : ℤ) (tie : Tie) (row : WRow) (beside : Beside) → unsigned_abs times ≤ 4
    → slice_get rows tie.row ≡ Some row → row.kind ≡ IsZero → row.weights ≡ [] → IsThree rows row tie.back tie.link beside
    → IsShift (rows_under unweighed rows) times times most_of_tie tie
    ((tie.row, signed times tie.back) ∷ taken_out beside (signed times tie.back *ℤ beside.times))
three_shift end rows times tie row beside small is kind weights h =
    let T = signed times tie.back in
    let product = T *ℤ beside.times in
    let few = signed_small times tie.back 4 small in
    let out = out_cases (int_lt (pos 0) product) rows beside.least beside.most h.variable h.number product refl h.fixed in
    let rest = taken_out beside product in
    let low = product_small T beside.times few h.short in
    record {
      coefficients = λ x. under_terms unweighed rows tie.row T row x rest is ∙ ap (λ (z : ℤ). T *ℤ coefficient_of x row.terms +ℤ z)
          (out.coefficients x) ∙ ap (λ (z : ℤ). T *ℤ z +ℤ (pos 0 -ℤ product *ℤ unit x h.variable)) (h.coefficients x)
          ∙ gone T (unit x h.plus -ℤ unit x h.minus) beside.times (unit x h.variable)
          ∙ signed_times times (unit x h.plus -ℤ unit x h.minus) tie.back
          ∙ ap (λ (z : ℤ). times *ℤ z) (leads_value tie.back h.plus h.minus tie.link x h.leads);
      constant = under_constant unweighed rows tie.row T row rest is weights ∙ ap (λ (z : ℤ). T *ℤ row.constant +ℤ z) out.constant
          ∙ both T row.constant beside.times h.number ∙ signed_times times (row.constant +ℤ beside.times *ℤ h.number) tie.back
          ∙ ap (λ (z : ℤ). times *ℤ z) (sym h.adds);
      allowed = ((row_under unweighed row, under_at unweighed rows tie.row row is, zero_allowed row.kind T kind), out.allowed);
      small = λ n. subst (λ (l : List (ℕ × ℤ)). unsigned_abs (cond (eqb tie.row n) T (pos 0) +ℤ coefficient_of n l) ≤ most_of_tie)
          (sym out.is) (apart_small (eqb tie.row n) (eqb out.row n) T out.times most_of_tie
          (other_row rows tie.row out.row n row out.there is out.at kind out.inequality) (omega (arith, few))
          (let s = out.small in omega (arith, s, low)));
    }
  where
    gone : (t d m v : ℤ) → t *ℤ (d +ℤ m *ℤ v) +ℤ (pos 0 -ℤ (t *ℤ m) *ℤ v) ≡ t *ℤ d
    gone t d m v = ap (λ (z : ℤ). z +ℤ (pos 0 -ℤ (t *ℤ m) *ℤ v)) (times_plus t d (m *ℤ v))
        ∙ ap (λ (z : ℤ). (t *ℤ d +ℤ z) +ℤ (pos 0 -ℤ (t *ℤ m) *ℤ v)) (sym (times_assoc t m v)) ∙ nothing (t *ℤ d) ((t *ℤ m) *ℤ v)
      where
        nothing : (a b : ℤ) → (a +ℤ b) +ℤ (pos 0 -ℤ b) ≡ a
        nothing a b = omega (arith, ints)

    both : (t k m n : ℤ) → t *ℤ k +ℤ (t *ℤ m) *ℤ n ≡ t *ℤ (k +ℤ m *ℤ n)
    both t k m n = ap (λ (z : ℤ). t *ℤ k +ℤ z) (times_assoc t m n) ∙ sym (times_plus t k (m *ℤ n))

says_shift : (end : ℕ) (rows : List WRow) (times : ℤ) (tie : Tie) (beside : Option Beside) (row : WRow) → tie.beside ≡ beside
    → unsigned_abs times ≤ 4 → slice_get rows tie.row ≡ Some row → row.kind ≡ IsZero → row.weights ≡ []
    → SaysInt rows row tie.back tie.link beside → IsShift (rows_under unweighed rows) times times most_of_tie tie
    ((tie.row, signed times tie.back) ∷ beside_entries beside (signed times tie.back))
says_shift end rows times tie None row e small is kind weights h = two_shift end rows times tie row small is kind weights h
says_shift end rows times tie (Some beside) row e small is kind weights h = three_shift end rows times tie row beside small is kind
    weights h

int_shift : (end : ℕ) (rows : List WRow) (times : ℤ) (tie : Tie) → unsigned_abs times ≤ 4 → IsIntTie end rows tie
    → IsShift (rows_under unweighed rows) times times most_of_tie tie (int_tie_entries times tie)
int_shift end rows times tie small h = says_shift end rows times tie tie.beside h.row refl small h.at h.equation h.weightless h.says

-- ---- a trail
int_shifts : (end : ℕ) (rows : List WRow) (times : ℤ) (first v : ℕ) (by : ℤ) (ties : List Tie) → unsigned_abs times ≤ 4
    → IsTrail (IsIntTie end rows) first v by ties → AreShifts (rows_under unweighed rows) times times (length ties * 16384) first v
    by (int_entries times ties)
int_shifts end rows times first v by [] small h = no_shift (rows_under unweighed rows) times times first v by h.0 h.1
int_shifts end rows times first v by (tie ∷ rest) small h =
    subst (λ (n : ℕ). AreShifts (rows_under unweighed rows) times times n first v by (int_entries times (tie ∷ rest)))
    (one_more (length rest)) (shift_more (rows_under unweighed rows) times times most_of_tie (length rest * 16384) first v h.2
    by tie (int_tie_entries times tie) (int_entries times rest) h.1 h.3 (int_shift end rows times tie small h.0)
    (int_shifts end rows times first tie.link.from h.2 rest small h.4))
  where
    one_more : (n : ℕ) → 16384 + n * 16384 ≡ suc n * 16384
    one_more n = omega arith

-- ---- the bound
pub record IsCloseAt (rows : List WRow) (variable : ℕ) (times : ℤ) (bound : BoundRow) : Type 0 where
  pub row : IsRowOf rows bound.row variable times bound.base
  pub small : unsigned_abs bound.base ≤ 2 ^ 31

not_more : (test : Bool) (n : ℕ) → nat_lt 2147483648 n ≡ test → not test ≡ true → n ≤ 2 ^ 31
not_more true n e h = absurd (cc)
not_more false n e h = less n e
  where
    less : (n : ℕ) → nat_lt 2147483648 n ≡ false → n ≤ 2147483648
    less n e = grind (arith, nat_tests)

close_cases : (test : Bool) (variable : ℕ) (times : ℤ) (n : ℕ) (all : List WRow) (row : WRow) (later : Option BoundRow)
    (bound : BoundRow) → is_close variable times row ≡ test → slice_get all n ≡ Some row
    → (later ≡ Some bound → IsCloseAt all variable times bound) → cond test (Some (record { row = n; base = row.constant })) later
    ≡ Some bound → IsCloseAt all variable times bound
close_cases true variable times n all row later bound t is more e =
    let parts = and_parts (is_bound variable times row) (not (nat_lt 2147483648 (unsigned_abs row.constant))) t in
    subst (IsCloseAt all variable times) (same_Some (record { row = n; base = row.constant }) bound e)
    (record {
      row = row_of all n variable times row is parts.0;
      small = not_more (nat_lt 2147483648 (unsigned_abs row.constant))
          (unsigned_abs row.constant) refl parts.1;
    })
close_cases false variable times n all row later bound t is more e = more e

pub close_is : (variable : ℕ) (times : ℤ) (n : ℕ) (all rows : List WRow) (bound : BoundRow) → IsRest all n rows
    → close_from variable times n rows ≡ Some bound → IsCloseAt all variable times bound
close_is variable times n all [] bound h e = absurd (none-some bound e)
close_is variable times n all (row ∷ rest) bound h e = close_cases (is_close variable times row) variable times n all row
    (close_from variable times (suc n) rest) bound refl (rest_first all n row rest h)
    (λ f. close_is variable times (suc n) all rest bound (rest_more all n row rest h) f) e

is_less : (n : ℕ) → n ≤ 2 ^ 31 → not (nat_lt 2147483648 n) ≡ true
is_less n h = ap not (less n h)
  where
    less : (n : ℕ) → n ≤ 2147483648 → nat_lt 2147483648 n ≡ false
    less n h = grind (arith, nat_tests)

found_cases : (test : Bool) (bound : BoundRow) (later : Option BoundRow)
    → (test ≡ false → (other : BoundRow) × (later ≡ Some other)) → (other : BoundRow) × (cond test (Some bound) later ≡ Some other)
found_cases true bound later more = (bound, refl)
found_cases false bound later more = more refl

close_found_from : (variable : ℕ) (times : ℤ) (n k : ℕ) (rows : List WRow) (row : WRow) → slice_get rows k ≡ Some row
    → is_close variable times row ≡ true → (bound : BoundRow) × (close_from variable times n rows ≡ Some bound)
close_found_from variable times n k [] row is e = absurd (cc)
close_found_from variable times n zero (first ∷ rest) row is e = found_cases (is_close variable times first)
    (record { row = n; base = first.constant }) (close_from variable times (suc n) rest)
    (λ f. absurd (false≢true (sym f ∙ ap (is_close variable times) (same_Some first row is) ∙ e)))
close_found_from variable times n (suc k) (first ∷ rest) row is e = found_cases (is_close variable times first)
    (record { row = n; base = first.constant }) (close_from variable times (suc n) rest)
    (λ f. close_found_from variable times (suc n) k rest row is e)

pub close_found : (rows : List WRow) (variable : ℕ) (times : ℤ) → HasClose rows variable times → (bound : BoundRow)
    × (close_from variable times 0 rows ≡ Some bound)
close_found rows variable times h =
    let b = h.bound in
    close_found_from variable times 0 b.among.0 rows b.row b.among.1
    (and_from (is_bound variable times b.row) (not (nat_lt 2147483648 (unsigned_abs b.row.constant)))
    (bound_told rows variable times h.constant b)
    (is_less (unsigned_abs b.row.constant) (subst (λ (z : ℤ). unsigned_abs z ≤ 2 ^ 31) (sym b.number) h.small)))

often_side : (here test : Bool) (t : ℤ) → cond test (pos 0 -ℤ t) t *ℤ (cond here (cond test (negsuc 0) (pos 1)) (pos 0) +ℤ pos 0)
    ≡ cond here t (pos 0) +ℤ pos 0
often_side true true t = omega (arith, ints)
often_side true false t = omega (arith, ints)
often_side false true t = mul-zero_ℤ (pos 0 -ℤ t)
often_side false false t = mul-zero_ℤ t

often_low : (test : Bool) (t : ℤ) → int_lt t (pos 0) ≡ test → pos 0 ≤ℤ cond test (pos 0 -ℤ t) t
often_low true t e = omega (arith, ints, e)
often_low false t e = omega (arith, ints, e)

often_small : (test : Bool) (t : ℤ) (n : ℕ) → unsigned_abs t ≤ n → unsigned_abs (cond test (pos 0 -ℤ t) t) ≤ n
often_small true t n h = omega (arith, ints, h)
often_small false t n h = h

base_small : (t m : ℤ) → unsigned_abs t ≤ 4 → unsigned_abs m ≤ 2 ^ 31 → unsigned_abs (t *ℤ m) ≤ 8589934592
base_small t m h k = let e = unsigned_abs-mul t m in let p = most (unsigned_abs t) (unsigned_abs m) h k in omega (arith, e, p)
  where
    most : (a b : ℕ) → a ≤ 4 → b ≤ 2147483648 → a * b ≤ 8589934592
    most zero b h k = omega arith
    most (suc zero) b h k = omega (arith, k)
    most (suc (suc zero)) b h k = omega (arith, k)
    most (suc (suc (suc zero))) b h k = omega (arith, k)
    most (suc (suc (suc (suc zero)))) b h k = omega (arith, k)
    most (suc (suc (suc (suc (suc a))))) b h k = absurd (omega (arith, h))

-- ---- the whole
term_value : (here : Bool) (t : ℤ) → t *ℤ (cond here (pos 1) (pos 0) +ℤ pos 0) ≡ cond here t (pos 0) +ℤ pos 0
term_value true t = omega (arith, ints)
term_value false t = mul-zero_ℤ t

low_ties : (end : ℕ) (rows : List WRow) (ties : List Tie) → end ≤ 65536 → Each (IsIntTie end rows) ties → AreLow 65536 ties
low_ties end rows [] few h = tt
low_ties end rows (tie ∷ rest) few h = ((let l = h.0.low in omega (arith, few, l)), low_ties end rows rest few h.1)

pub int_reasoned : (end : ℕ) (rows : List WRow) (start finish : ℕ) (times : ℤ) (known : Known) (come : Come) (bound : BoundRow)
    → AreRows end rows → end ≤ 65536 → All IsShort rows → unsigned_abs times ≤ 4 → start < 65536
    → IsFinished (ties_from rows 0 rows) start known → get_or known finish None ≡ Some come
    → close_from start (side times) 0 rows ≡ Some bound → IsReasoned (rows_under unweighed rows) ((start, times) ∷ [])
    ((finish, times) ∷ []) 1073725440 8589934592 (int_made come bound times known finish)
int_reasoned end rows start finish times known come bound fit few short small low done is e =
    let ties = ties_from rows 0 rows in
    let each = ties_ways end rows fit short in
    let back = gone_back (IsIntTie end rows) ties start finish known come each (low_ties end rows ties few each) low done is in
    let trail = trail_from (length known) known finish in
    let shifts = int_shifts end rows times start finish come.by trail small back.trail in
    let close = close_is start (side times) 0 rows rows bound (rest_all rows) e in
    let t = often times in
    let test = int_lt times (pos 0) in
    let less = often_small test times 4 small in
    record {
      coefficients = λ x. shifts.coefficients x ∙ times_minus times (unit x start) (unit x finish)
          ∙ ap (λ (z : ℤ). z -ℤ times *ℤ unit x finish) (term_value (eqb start x) times)
          ∙ ap (λ (z : ℤ). coefficient_of x ((start, times) ∷ []) -ℤ z) (term_value (eqb finish x) times);
      constant = ap (λ (z : ℤ). z +ℤ (pos 0 -ℤ times *ℤ come.by)) shifts.constant ∙ nothing (times *ℤ come.by);
      allowed = shifts.allowed;
      small = λ n. through (unsigned_abs (coefficient_of n (int_entries times trail))) (length trail) (shifts.small n) back.short;
      bound_coefficients = λ x. row_value unweighed rows bound.row start (side times) bound.base t x close.row
          ∙ often_side (eqb start x) test times;
      bound_constant = row_constant unweighed rows bound.row start (side times) bound.base t close.row;
      bound_allowed = row_allowed unweighed rows bound.row start (side times) bound.base t close.row (often_low test times refl);
      bound_small = λ n. one_small (eqb bound.row n) t 1073725440 (omega (arith, less));
      base = base_small t bound.base less close.small;
    }
  where
    nothing : (a : ℤ) → a +ℤ (pos 0 -ℤ a) ≡ pos 0
    nothing a = omega (arith, ints)

    through : (a n : ℕ) → a ≤ n * 16384 → n < 65536 → a ≤ 1073725440
    through a n h k = omega (arith, h, k)
