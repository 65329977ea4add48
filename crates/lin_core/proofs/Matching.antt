-- The terms of a target, compared with a sum one by one.
use Rattle.std.proofs.Common.{◌≡◌, ◌↔◌, ◌≢◌, ℕ, zero, suc, ◌+◌, ◌≤◌, ◌<◌, Bool, true, false, cond, eqb, List, [], ◌∷◌, length}
use Rattle.std.proofs.Common.{get_or, set, drop, count_by, ℤ, pos, negsuc, ◌+ℤ◌, ◌≤ℤ◌, subst, ap, arith, refl, ◌∙◌, sym}
use Rattle.std.proofs.lemmas.Int.{ints}
use Rattle.std.proofs.lemmas.Bool.{eqb-true, eq-eqb}
use Rattle.std.proofs.lemmas.List.Sums.{sum_by-cons}
use Rattle.std.proofs.lemmas.List.{length-set, at_drop_more, at_drop_all}
use Rattle.lin_core.specs.declared.rows.Target.{Target}
use Rattle.lin_core.specs.Combination.{Shows, Shown, AllAllowed, IsSumOf, summed_coefficient, summed_constant}
use Rattle.lin_core.specs.Rounds.{is_nonzero}
use Rattle.lin_core.specs.Rows.{Row, coefficient_of, RiseFrom, Rise, AllRise, AllHold, value_of_terms, value_of_target}
use Rattle.lin_core.specs.Sums.{Sum, variables, coefficient_in, value_of_sum}
use Rattle.lin_core.proofs.Cells.{recounted}
use Rattle.lin_core.proofs.Midway.{written_at}
use Rattle.lin_core.proofs.Soundness.{value_span, span_terms, span_same, span_summed, sum_of_add, combined_nonneg, bound_of}
use Rattle.lin_core.proofs.Soundness.{span_all, all_wider}

-- `rest` is left of the terms `all`, and those before it are equal to the sum's: `others` is the sum's coefficients with
-- theirs put to 0, and `found` of theirs are not 0
pub record IsMatched (all rest : List (ℕ × ℤ)) (sum : Sum) (found : ℕ) : Type 0 where
  pub others : List ℤ
  pub count : length others ≡ variables sum
  pub low : ℕ
  pub rise : RiseFrom low (variables sum) rest
  pub untouched : (x : ℕ) → low ≤ x → get_or others x (pos 0) ≡ coefficient_in sum x
  pub parts : (x : ℕ) → coefficient_in sum x +ℤ coefficient_of x rest ≡ get_or others x (pos 0) +ℤ coefficient_of x all
  pub nonzero : found + count_by is_nonzero others ≡ count_by is_nonzero sum.coefficients

one_part : (here : Bool) (was is k whole rest all : ℤ) → is ≡ cond here (pos 0) was → (here ≡ true → was ≡ k)
    → whole +ℤ (cond here k (pos 0) +ℤ rest) ≡ was +ℤ all → whole +ℤ rest ≡ is +ℤ all
one_part true was is k whole rest all e same h =
    let w = same refl in
    omega (arith, ints)
one_part false was is k whole rest all e same h = omega (arith, ints)

far_place : (t : Bool) (y x : ℕ) (a b : ℤ) → eqb y x ≡ t → y ≢ x → cond t a b ≡ b
far_place true y x a b e far = absurd (far (eqb-true y x e))
far_place false y x a b e far = refl

-- a term is equal to the sum's
matched_step : (all rest : List (ℕ × ℤ)) (term : ℕ × ℤ) (sum : Sum) (found more : ℕ) → IsMatched all (term ∷ rest) sum found
    → coefficient_in sum term.0 ≡ term.1 → more ≡ cond (is_nonzero term.1) 1 0 → IsMatched all rest sum (found + more)
matched_step all rest term sum found more h equal one =
    let inside : term.0 < length h.others = omega (arith, h.count, h.rise.1) in
    let was : get_or h.others term.0 (pos 0) ≡ term.1 = h.untouched term.0 h.rise.0 ∙ equal in
    let at : (x : ℕ) → get_or (set h.others term.0 (pos 0)) x (pos 0) ≡ cond (eqb term.0 x) (pos 0) (get_or h.others x (pos 0)) = λ
    x. written_at h.others term.0 x (pos 0) (eqb term.0 x) inside refl in
    let counted = recounted h.others term.0 term.1 (pos 0) inside (sym was) in
    record {
      others = set h.others term.0 (pos 0);
      count = length-set h.others term.0 (pos 0) ∙ h.count;
      low = suc term.0;
      rise = h.rise.2;
      untouched = λ x far. at x ∙ far_place (eqb term.0 x) term.0 x _ _ refl (omega arith) ∙ h.untouched x (omega (arith, h.rise.0));
      parts = λ x. one_part (eqb term.0 x) (get_or h.others x (pos 0)) _ term.1 (coefficient_in sum x) (coefficient_of x rest)
          (coefficient_of x all) (at x) (λ t. subst (λ (z : ℕ). get_or h.others z (pos 0) ≡ term.1) (eqb-true term.0 x t) was) (h.parts x);
      nonzero = omega (arith, h.nonzero);
    }

past_place : (x low end : ℕ) (terms : List (ℕ × ℤ)) → RiseFrom low end terms → x < low → coefficient_of x terms ≡ pos 0
past_place x low end [] h far = refl
past_place x low end (term ∷ rest) h far =
    let head = far_place (eqb term.0 x) term.0 x term.1 (pos 0) refl (omega (arith, h.0)) in
    let tail = past_place x (suc term.0) end rest h.2 (omega (arith, h.0)) in
    omega (arith, ints)

cancelled : (whole k rest all : ℤ) → rest ≡ pos 0 → whole +ℤ (k +ℤ rest) ≡ whole +ℤ all → k ≡ all
cancelled whole k rest all e h = omega (arith, ints)

-- a term has its variable's coefficient
term_is : (all rest : List (ℕ × ℤ)) (term : ℕ × ℤ) (sum : Sum) (found : ℕ) → IsMatched all (term ∷ rest) sum found
    → term.1 ≡ coefficient_of term.0 all
term_is all rest term sum found h =
    let was = h.untouched term.0 h.rise.0 in
    let own : cond (eqb term.0 term.0) term.1 (pos 0) ≡ term.1 = ap (λ (t : Bool). cond t term.1 (pos 0)) (eq-eqb term.0 term.0 refl) in
    let past = past_place term.0 (suc term.0) (variables sum) rest h.rise.2 (omega arith) in
    cancelled (coefficient_in sum term.0) term.1 (coefficient_of term.0 rest) (coefficient_of term.0 all) past
    (rw (own, was) at (h.parts term.0))

pub matched_more : (all items : List (ℕ × ℤ)) (i : ℕ) (sum : Sum) (found more : ℕ) → i < length items
    → IsMatched all (drop i items) sum found → coefficient_in sum (get_or items i (0, pos 0)).0 ≡ (get_or items i (0, pos 0)).1
    → more ≡ cond (is_nonzero (get_or items i (0, pos 0)).1) 1 0 → IsMatched all (drop (i + 1) items) sum (found + more)
matched_more all items i sum found more in' h equal one =
    let split = at_drop_more (λ (xs : List (ℕ × ℤ)). xs) items i (0, pos 0) in' in
    matched_step all (drop (i + 1) items) (get_or items i (0, pos 0)) sum found more
    (subst (λ (xs : List (ℕ × ℤ)). IsMatched all xs sum found) split h) equal one

-- a term that is not equal to the sum's
pub unmatched : (target : Target) (items : List (ℕ × ℤ)) (i : ℕ) (sum : Sum) (found : ℕ) → i < length items
    → IsMatched target.terms (drop i items) sum found
    → ¬ (coefficient_in sum (get_or items i (0, pos 0)).0 ≡ (get_or items i (0, pos 0)).1) → ¬ Shows sum target
unmatched target items i sum found in' h apart shows =
    let split = at_drop_more (λ (xs : List (ℕ × ℤ)). xs) items i (0, pos 0) in' in
    let is = term_is target.terms (drop (i + 1) items) (get_or items i (0, pos 0)) sum found
    (subst (λ (xs : List (ℕ × ℤ)). IsMatched target.terms xs sum found) split h) in
    apart (shows.coefficients (get_or items i (0, pos 0)).0 ∙ sym is)

zero_from_test : (z : ℤ) → ◌≡◌ {A = ℕ} (cond (is_nonzero z) 1 0) 0 → z ≡ pos 0
zero_from_test (pos zero) h = refl
zero_from_test (pos (suc n)) h = absurd (omega arith)
zero_from_test (negsuc n) h = absurd (omega arith)

counted_cons : (z : ℤ) (zs : List ℤ) → count_by is_nonzero (z ∷ zs) ≡ cond (is_nonzero z) 1 0 + count_by is_nonzero zs
counted_cons z zs = sum_by-cons (λ (x : ℤ). cond (is_nonzero x) 1 0) z zs

pub count_of_one : (b : Bool) → cond b 1 0 ≤ 1
count_of_one true = omega arith
count_of_one false = omega arith

pub zeros_from_count : (zs : List ℤ) → count_by is_nonzero zs ≡ 0 → (x : ℕ) → get_or zs x (pos 0) ≡ pos 0
zeros_from_count [] h x = refl
zeros_from_count (z ∷ zs) h zero = zero_from_test z (omega (arith, counted_cons z zs))
zeros_from_count (z ∷ zs) h (suc x) = zeros_from_count zs (omega (arith, counted_cons z zs)) x

pub count_from_zeros : (zs : List ℤ) → ((x : ℕ) → get_or zs x (pos 0) ≡ pos 0) → count_by is_nonzero zs ≡ 0
count_from_zeros [] h = refl
count_from_zeros (z ∷ zs) h =
    let head : ◌≡◌ {A = ℕ} (cond (is_nonzero z) 1 0) 0 = ap (λ (k : ℤ). cond {A = ℕ} (is_nonzero k) 1 0) (h 0) in
    let tail = count_from_zeros zs (λ x. h (suc x)) in
    omega (arith, counted_cons z zs)

drop_zero : (whole other all : ℤ) → whole +ℤ pos 0 ≡ other +ℤ all → other ≡ pos 0 → whole ≡ all
drop_zero whole other all h e = omega (arith, ints)

drop_same : (whole other all : ℤ) → whole +ℤ pos 0 ≡ other +ℤ all → whole ≡ all → other ≡ pos 0
drop_same whole other all h e = omega (arith, ints)

-- all terms are equal: the sum shows the target if it has no other coefficients, and its constant is small enough
pub matched_last : (target : Target) (items : List (ℕ × ℤ)) (i : ℕ) (sum : Sum) (found : ℕ) → length items ≤ i
    → IsMatched target.terms (drop i items) sum found
    → (found ≡ count_by is_nonzero sum.coefficients → sum.constant ≤ℤ target.constant → Shows sum target)
    × (Shows sum target → (found ≡ count_by is_nonzero sum.coefficients) × (sum.constant ≤ℤ target.constant))
matched_last target items i sum found past h =
    let none = at_drop_all (λ (xs : List (ℕ × ℤ)). xs) items i past in
    let m = subst (λ (xs : List (ℕ × ℤ)). IsMatched target.terms xs sum found) none h in (
      λ all small. record {
        coefficients = λ x. drop_zero (coefficient_in sum x) (get_or m.others x (pos 0)) (coefficient_of x target.terms) (m.parts x)
            (zeros_from_count m.others (omega (arith, m.nonzero)) x);
        constant = small;
      },
      λ shows.
          let zeros = count_from_zeros m.others
          (λ x. drop_same (coefficient_in sum x) (get_or m.others x (pos 0)) (coefficient_of x target.terms) (m.parts x)
          (shows.coefficients x)) in
          (omega (arith, m.nonzero), shows.constant),
    )

-- a target that is shown is at least 0 where the sum is
above : (value constant other : ℤ) → pos 0 ≤ℤ (value +ℤ constant) → constant ≤ℤ other → pos 0 ≤ℤ (value +ℤ other)
above value constant other h k = omega (arith, ints)

pub shown_sound : (numbers : ℕ → ℤ) (sum : Sum) (target : Target) → Rise (variables sum) target.terms → Shows sum target
    → pos 0 ≤ℤ value_of_sum numbers sum → pos 0 ≤ℤ value_of_target numbers target
shown_sound numbers sum target rise shows h =
    let spread = value_span numbers (λ x. coefficient_of x target.terms) sum.coefficients 0
    (λ j. shows.coefficients j ∙ ap (λ (x : ℕ). coefficient_of x target.terms) (omega arith)) in
    let same = spread ∙ span_terms numbers target.terms 0 (variables sum) rise in
    above (value_of_terms numbers target.terms) sum.constant target.constant
    (subst (λ (z : ℤ). pos 0 ≤ℤ (z +ℤ sum.constant)) same h) shows.constant

-- the same, for a target that is shown from rows
pub shown_target_holds : (numbers : ℕ → ℤ) (end : ℕ) (rows : List Row) (target : Target) (entries : List (ℕ × ℤ)) → AllRise end rows
    → Shown rows target entries → AllHold numbers rows → pos 0 ≤ℤ value_of_target numbers target
shown_target_holds numbers end rows target entries rise shown hold =
    let wide = end + bound_of target.terms in
    let h = combined_nonneg numbers rows entries hold shown.allowed in
    let parts = sum_of_add (λ row. value_of_terms numbers row.terms) (λ row. row.constant) rows entries in
    let same = sym (span_summed numbers wide rows entries (all_wider rows end (bound_of target.terms) rise))
    ∙ span_same numbers (summed_coefficient rows entries) (λ x. coefficient_of x target.terms) shown.coefficients 0 wide
    ∙ span_all numbers target.terms wide (omega arith) in
    let whole : pos 0 ≤ℤ (value_of_terms numbers target.terms +ℤ summed_constant rows entries) = subst
    (λ (z : ℤ). pos 0 ≤ℤ (z +ℤ summed_constant rows entries)) same (subst (λ (z : ℤ). pos 0 ≤ℤ z) parts h) in
    above (value_of_terms numbers target.terms) (summed_constant rows entries) target.constant whole shown.constant

pub sum_shows : (end : ℕ) (rows : List Row) (target : Target) (entries : List (ℕ × ℤ)) (sum : Sum) → AllAllowed rows entries
    → IsSumOf end rows entries sum → (Shows sum target ↔ Shown rows target entries)
sum_shows end rows target entries sum allowed is = (
  λ shows. record {
    allowed = allowed;
    coefficients = λ x. sym (is.coefficients x) ∙ shows.coefficients x;
    constant = subst (λ (z : ℤ). z ≤ℤ target.constant) is.constant shows.constant;
  },
  λ shown. record {
    coefficients = λ x. is.coefficients x ∙ shown.coefficients x;
    constant = subst (λ (z : ℤ). z ≤ℤ target.constant) (sym is.constant) shown.constant;
  },
)
