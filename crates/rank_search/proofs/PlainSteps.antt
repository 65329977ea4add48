-- A plain form that is found makes a rank step.
use Rattle.std.proofs.Common.{◌≡◌, ℕ, ◌≤◌, false, List, [], length, ℤ, pos, negsuc, ◌-ℤ◌, ◌≤ℤ◌, Option, Some, None, subst, arith}
use Rattle.std.proofs.Common.{refl, sym}
use Rattle.std.specs.Prelude.{slice_get}
use Rattle.std.proofs.lemmas.Int.{ints}
use Rattle.std.proofs.lemmas.Option.{get_or_from_slice_get, same_Some, none-some}
use Rattle.list_views.proofs.Quantified.{all_at}
use Rattle.descent.specs.Conditions.{IsRule}
use Rattle.descent.specs.declared.proof.CutForm.{CutForm}
use Rattle.descent.specs.declared.proof.RankRule.{RankRule}
use Rattle.descent.specs.declared.rules.PathRule.{PathRule}
use Rattle.descent.specs.declared.rules.Place.{Place}
use Rattle.rank_forms.specs.declared.following.Bound.{Bound}
use Rattle.rank_forms.specs.declared.following.Followed.{Followed}
use Rattle.rank_forms.specs.declared.reasons.Reasons.{Reasons}
use Rattle.rank_forms.specs.rule_links.Counting.{multipliers_of}
use Rattle.rank_forms.specs.Following.{made}
use Rattle.rank_forms.specs.Forms.{AreCuts, forms_over, list_from, needed, or_zero}
use Rattle.rank_forms.specs.Graphs.{ArePlainRules, IsPathRule, IsPlainRule}
use Rattle.rank_search.specs.Plain.{FormMoves, LowersBy, NoPlainForm}
use Rattle.rank_forms.specs.RankSteps.{IsRankStep}
use Rattle.rank_forms.specs.Reasons.{TellsEach, TellsInts, followed_by, followed_of}
use Rattle.rank_forms.specs.rule_links.Ties.{IsMoved}
use Rattle.rank_forms.proofs.Formed.{rule_lines}
use Rattle.rank_search.proofs.IntForms.{IsIntsTold, form_parts, ints_told}
use Rattle.rank_forms.proofs.Lined.{ranking_with}
use Rattle.rank_forms.proofs.Shown.{IsShown, follow_there, int_step}
use Rattle.rank_forms.proofs.Told.{AreTold, told_all}

-- ---- following all rules
abbrev pub nothing : Followed
nothing = made (pos 0) [] None

pub each_followed : (tells : PathRule → Option Followed → Type 0) (rules : List PathRule) (all : List Followed) (n : ℕ)
    → length rules ≤ n → AreTold (λ rule followed. tells rule (Some followed)) rules nothing all n → TellsEach tells rules (Some all)
each_followed tells rules all n past h =
    let t = told_all (λ rule followed. tells rule (Some followed)) rules nothing all n past h in (
      t.0,
      λ k rule followed is too. subst (λ (f : Followed). tells rule (Some f)) (get_or_from_slice_get all k followed nothing too)
          (t.1 k rule is),
    )

pub none_followed : (tells : PathRule → Option Followed → Type 0) (rules : List PathRule) (n : ℕ) (rule : PathRule)
    (found : Option Followed) → slice_get rules n ≡ Some rule → found ≡ None → tells rule found → TellsEach tells rules None
none_followed tells rules n rule found is e h = (n, rule, is, subst (tells rule) e h)

pub some_followed : (tells : PathRule → Option Followed → Type 0) (rule : PathRule) (found : Option Followed) (followed : Followed)
    → found ≡ Some followed → tells rule found → tells rule (Some followed)
some_followed tells rule found followed e h = subst (tells rule) e h

-- ---- ints

told_at : (rules : List PathRule) (form : List (Place × ℤ)) (n : ℕ) (rule : PathRule) (c : ℤ) (found : Option Followed)
    → ArePlainRules rules → LowersBy IsMoved rules form → slice_get rules n ≡ Some rule → FormMoves IsMoved rule form c
    → TellsInts form rule found → IsIntsTold rule form c found
told_at rules form n rule c found are lowers is moves tells = ints_told rule form c found
    (all_at IsRule rules n rule are.paths.limits is) (all_at IsPathRule rules n rule are.paths.each is)
    (all_at IsPlainRule rules n rule are.plain is) lowers.shape moves tells

pub no_ints_step : (rules : List PathRule) (form : List (Place × ℤ)) → ArePlainRules rules → LowersBy IsMoved rules form
    → TellsEach (TellsInts form) rules None → NoPlainForm rules
no_ints_step rules form are lowers tells =
    let some = lowers.each tells.0 tells.1 tells.2 in
    let told = told_at rules form tells.0 tells.1 some.0 None are lowers tells.2 some.1 tells.3 in
    absurd (none-some told.followed told.is)

has_bound : (rule : PathRule) (form : List (Place × ℤ)) (followed : Followed) → TellsInts form rule (Some followed)
    → (bound : Bound) × (followed.bound ≡ Some bound)
has_bound rule form followed tells = by_reasons tells.0 tells.2
  where
    by_reasons : (reasons : Option Reasons) → Some followed ≡ followed_of (length rule.rows) reasons → (bound : Bound)
        × (followed.bound ≡ Some bound)
    by_reasons None e = absurd (none-some followed (sym e))
    by_reasons (Some reasons) e = subst (λ (f : Followed). (bound : Bound) × (f.bound ≡ Some bound))
        (sym (same_Some followed (followed_by (length rule.rows) reasons) e))
        (record { rows = multipliers_of (length rule.rows) reasons.bound; base = reasons.base }, refl)

falls_low : (f c : ℤ) → f ≡ pos 0 -ℤ c → c ≤ℤ pos 0 → pos 0 ≤ℤ f
falls_low f c e h = omega (arith, ints, e, h)

falls_strictly : (f c : ℤ) → f ≡ pos 0 -ℤ c → c ≤ℤ negsuc 0 → pos 1 ≤ℤ f
falls_strictly f c e h = omega (arith, ints, e, h)

ints_made : (rules : List PathRule) (form : List (Place × ℤ)) (all : List Followed) (constant : ℤ) (cuts : List ℕ)
    → ArePlainRules rules → LowersBy IsMoved rules form → TellsEach (TellsInts form) rules (Some all)
    → constant ≡ or_zero (needed None all) → AreCuts rules cuts
    → IsRankStep rules (record { size = false; weights = []; forms = forms_over rules false form constant cuts; rules = list_from 0 all })
ints_made rules form all constant cuts are lowers tells k c =
    let fallen = follow_there all rules lowers.falling lowers.fallen tells.0 lowers.there in
    let tell = tells.1 lowers.falling lowers.fallen fallen.0 lowers.there fallen.1 in
    let told = told_at rules form lowers.falling lowers.fallen lowers.falls.0 (Some fallen.0) are lowers lowers.there lowers.falls.1
    tell in
    let bound = has_bound lowers.fallen form fallen.0 tell in
    int_step rules form all constant cuts are.paths (form_parts form lowers.shape) c k (record {
      count = tells.0;
      each = λ n rule followed is e.
          let some = lowers.each n rule is in
          let t = told_at rules form n rule some.0 (Some followed) are lowers is some.1 (tells.1 n rule followed is e) in
          let same = same_Some followed t.followed t.is in
          subst (λ (f : Followed). IsShown (ranking_with false [] (forms_over rules false form constant cuts)) constant rule f)
          (sym same) (record {
            start = t.start;
            finish = t.finish;
            lines = rule_lines false [] rules form constant cuts n rule t.start t.finish are.paths c is t.ends;
            shown = t.shown;
            falls = falls_low t.followed.falls some.0 t.falls some.2;
          });
    }) (record {
      number = lowers.falling;
      followed = fallen.0;
      there = fallen.1;
      falls = subst (λ (f : Followed). pos 1 ≤ℤ f.falls) (sym (same_Some fallen.0 told.followed told.is))
          (falls_strictly told.followed.falls lowers.falls.0 told.falls lowers.falls.2);
      bound = bound.0;
      bounded = bound.1;
    })

pub ints_step_is : (rules : List PathRule) (form : List (Place × ℤ)) (all : List Followed) (constant : ℤ) (cuts : List ℕ)
    (forms : List CutForm) (listed : List RankRule) (weights : List (ℕ × ℤ)) → ArePlainRules rules → LowersBy IsMoved rules form
    → TellsEach (TellsInts form) rules (Some all) → constant ≡ or_zero (needed None all) → AreCuts rules cuts
    → forms ≡ forms_over rules false form constant cuts → listed ≡ list_from 0 all → weights ≡ []
    → IsRankStep rules (record { size = false; weights = weights; forms = forms; rules = listed })
ints_step_is rules form all constant cuts forms listed weights are lowers tells k c f l w =
    subst (λ (x : List CutForm). IsRankStep rules (record { size = false; weights = weights; forms = x; rules = listed })) (sym f)
    (subst (λ (x : List RankRule). IsRankStep rules
    (record { size = false; weights = weights; forms = forms_over rules false form constant cuts; rules = x })) (sym l)
    (subst (λ (x : List (ℕ × ℤ)). IsRankStep rules
    (record { size = false; weights = x; forms = forms_over rules false form constant cuts; rules = list_from 0 all }))
    (sym w) (ints_made rules form all constant cuts are lowers tells k c)))
