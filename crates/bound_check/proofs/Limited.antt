-- What is asked of forms and multipliers holds of those of a text whose lists rise.
use Rattle.std.proofs.Common.{◌≡◌, ℕ, zero, suc, ℤ, ◌+◌, ◌^◌, ◌<◌, ◌≤◌, ◌&&◌, ◌==◌, Bool, true, false, cond, List, [], ◌∷◌, ◌++◌, map}
use Rattle.std.proofs.Common.{length, Option, Some, None, All, refl, sym, ap, ◌∙◌, subst, arith}
use Rattle.std.specs.Prelude.{nat_lt, slice_get, unsigned_abs}
use Rattle.std.specs.List.{list_all}
use Rattle.std.proofs.lemmas.Bool.{and_parts, ltb-true}
use Rattle.std.proofs.lemmas.List.Elements.{All-nil, All-cons, All-head, All-tail}
use Rattle.lin_core.specs.Rows.{RiseFrom}
use Rattle.descent.specs.declared.proof.CutForm.{CutForm}
use Rattle.descent.specs.declared.proof.ProofStep.{ProofStep}
use Rattle.descent.specs.declared.proof.ProofStep.TheVariants.{Empty, Split, Rank, Dead}
use Rattle.descent.specs.declared.proof.RankStep.{RankStep}
use Rattle.descent.specs.declared.rules.PathRule.{PathRule}
use Rattle.descent.specs.Conditions.{AreMultiples, IsForm, AreForms, AreFew, IsRanked, IsStep, AreSteps}
use Rattle.bound_text.specs.declared.texts.BoundRule.{BoundRule}
use Rattle.bound_text.specs.declared.texts.BoundEntry.{BoundEntry}
use Rattle.bound_text.specs.Limits.{IsLimitedMultiple, IsLimitedForm, HasFewRows, IsLimitedEntry}
use Rattle.bound_check.specs.Parts.{rank_in, rank_at}
use Rattle.bound_check.specs.Entries.{is_above, rise_after, rises, keys, form_rises, lists_rise, are_good_lists, fall_of, whole_forms}

-- ---- multipliers

few_cases : (rule : ℕ) (listed : BoundRule) (rest : List BoundRule) (here : Bool) → HasFewRows listed → AreFew (fall_of rule rest)
    → AreFew (cond here listed.fall (fall_of rule rest))
few_cases rule listed rest true few more = few
few_cases rule listed rest false few more = more

pub few_falls : (rules : List BoundRule) (rule : ℕ) → All HasFewRows rules → AreFew (fall_of rule rules)
few_falls [] rule few = omega arith
few_falls (listed ∷ rest) rule few = few_cases rule listed rest (listed.rule == rule) (All-head HasFewRows listed rest few)
    (few_falls rest rule (All-tail HasFewRows listed rest few))

-- ---- forms

-- the least number that may come after one
abbrev next_of : Option ℕ → ℕ
next_of None = 0
next_of (Some before) = suc before

next_is : (before : Option ℕ) (number : ℕ) → is_above before number ≡ true → next_of before ≤ number
next_is None number e = omega arith
next_is (Some before) number e = ltb-true before number e

rise_of : (before : Option ℕ) (entries : List (ℕ × ℤ)) → rise_after before (keys entries) ≡ true → All IsLimitedMultiple entries
    → RiseFrom (next_of before) 65536 entries
rise_of before [] e few = tt
rise_of before (entry ∷ rest) e few =
    let parts = and_parts (is_above before entry.0) (rise_after (Some entry.0) (keys rest)) e in (
      next_is before entry.0 parts.0,
      (All-head IsLimitedMultiple entry rest few).id,
      rise_of (Some entry.0) rest parts.1 (All-tail IsLimitedMultiple entry rest few),
    )

sizes_of : (entries : List (ℕ × ℤ)) → All IsLimitedMultiple entries → All (λ (entry : ℕ × ℤ). unsigned_abs entry.1 ≤ 2 ^ 31) entries
sizes_of [] few = All-nil (λ (entry : ℕ × ℤ). unsigned_abs entry.1 ≤ 2 ^ 31)
sizes_of (entry ∷ rest) few = All-cons (λ (entry : ℕ × ℤ). unsigned_abs entry.1 ≤ 2 ^ 31) entry rest
    (All-head IsLimitedMultiple entry rest few).size (sizes_of rest (All-tail IsLimitedMultiple entry rest few))

multiples_are : (entries : List (ℕ × ℤ)) → rises (keys entries) ≡ true → All IsLimitedMultiple entries → AreMultiples entries
multiples_are entries e few = record { rise = rise_of None entries e few; size = sizes_of entries few }

form_is : (form : CutForm) → form_rises form ≡ true → IsLimitedForm form → IsForm form
form_is form e limited =
    let parts = and_parts (rises (keys form.ints)) (rises (keys form.sizes)) e in
    record {
      number = limited.constant;
      ints = multiples_are form.ints parts.0 limited.ints;
      sizes = multiples_are form.sizes parts.1 limited.sizes;
    }

forms_are : (forms : List CutForm) → list_all form_rises forms ≡ true → All IsLimitedForm forms → AreForms forms
forms_are [] e limited = All-nil IsForm
forms_are (form ∷ rest) e limited =
    let parts = and_parts (form_rises form) (list_all form_rises rest) e in
    All-cons IsForm form rest (form_is form parts.0 (All-head IsLimitedForm form rest limited))
    (forms_are rest parts.1 (All-tail IsLimitedForm form rest limited))

both_good : (own added : List CutForm) → AreForms own → AreForms added → AreForms (own ++ added)
both_good [] added o a = a
both_good (form ∷ rest) added o a = All-cons IsForm form (rest ++ added) (All-head IsForm form rest o)
    (both_good rest added (All-tail IsForm form rest o) a)

pub whole_good : (step : RankStep) (entry : BoundEntry) (forms : List CutForm) → IsRanked step → IsLimitedEntry entry
    → lists_rise entry ≡ true → forms ≡ whole_forms step entry → AreForms forms
whole_good step entry forms ranked limited e is =
    let parts = and_parts (rises (map (λ (f : CutForm). f.cut) entry.forms))
    (list_all form_rises entry.forms && rises (map (λ (r : BoundRule). r.rule) entry.rules)) e in
    let more = and_parts (list_all form_rises entry.forms) (rises (map (λ (r : BoundRule). r.rule) entry.rules)) parts.1 in
    subst AreForms (sym is) (both_good step.forms entry.forms ranked.forms (forms_are entry.forms more.0 limited.forms))

-- ---- lists and steps

pub good_rise : (rules : List PathRule) (set : List ℕ) (step : RankStep) (entry : BoundEntry)
    → are_good_lists rules set step entry ≡ true → lists_rise entry ≡ true
good_rise rules set step entry e = (and_parts (lists_rise entry) _ e).0

step_is : (found : Option ProofStep) (step : RankStep) → ((s : ProofStep) → found ≡ Some s → IsStep s) → rank_in found ≡ Some step
    → IsRanked step
step_is None step are e = absurd (cc)
step_is (Some Empty) step are e = absurd (cc)
step_is (Some (Split parts steps)) step are e = absurd (cc)
step_is (Some (Rank own rest)) step are e = let same : own ≡ step = cc in subst IsRanked same (are (Rank own rest) refl)
step_is (Some (Dead rule multipliers rest)) step are e = absurd (cc)

all_at : (steps : List ProofStep) (n : ℕ) (step : ProofStep) → AreSteps steps → slice_get steps n ≡ Some step → IsStep step
all_at [] n step are e = absurd (cc)
all_at (x ∷ steps) zero step are e = let same : x ≡ step = cc in subst IsStep same (All-head IsStep x steps are)
all_at (x ∷ steps) (suc n) step are e = all_at steps n step (All-tail IsStep x steps are) e

pub step_ranked : (steps : List ProofStep) (n : ℕ) (step : RankStep) → AreSteps steps → rank_at steps n ≡ Some step → IsRanked step
step_ranked steps n step are e = step_is (slice_get steps n) step (λ s h. all_at steps n s are h) e
