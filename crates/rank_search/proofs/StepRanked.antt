-- What is followed along each rule makes a rank step.
use Rattle.std.proofs.Common.{◌≡◌, ℕ, ◌<◌, ◌≤◌, Bool, true, false, List, [], ◌∷◌, length, get_or, ℤ, pos, ◌≤ℤ◌, Option, Some, None}
use Rattle.std.proofs.Common.{subst, ap, arith, refl, ◌∙◌, sym}
use Rattle.std.specs.Prelude.{slice_get, unsigned_abs}
use Rattle.std.proofs.lemmas.Int.{ints}
use Rattle.std.proofs.lemmas.Option.{get_or_from_slice_get, slice_get-get_or, same_Some}
use Rattle.list_views.proofs.Orders.{int_through}
use Rattle.descent.specs.declared.proof.CutForm.{CutForm}
use Rattle.descent.specs.declared.proof.RankRule.{RankRule}
use Rattle.descent.specs.declared.rules.PathRule.{PathRule}
use Rattle.descent.specs.declared.rules.Place.{Place}
use Rattle.rank_forms.specs.declared.following.Bound.{Bound}
use Rattle.rank_forms.specs.declared.following.Followed.{Followed}
use Rattle.rank_forms.specs.Following.{IsAlong, IsFew, TellsFollowed, made}
use Rattle.rank_forms.specs.Forms.{AreCuts, AreFollowed, TellsAll, forms_over, list_from, needed, or_zero}
use Rattle.rank_forms.specs.Graphs.{ArePathRules}
use Rattle.rank_forms.specs.rule_links.Links.{IsWay}
use Rattle.rank_forms.specs.RankSteps.{IsRankStep}
use Rattle.rank_forms.specs.rule_links.Falls.{has_bound}
use Rattle.rank_forms.specs.rule_links.FallLinks.{IsFallLink, StepsDown, sign}
use Rattle.rank_search.specs.Stepwise.{NoStepwiseForm, StepwiseRanks}
use Rattle.rank_forms.proofs.Changed.{stands_is}
use Rattle.rank_forms.proofs.Falling.{bound_found}
use Rattle.rank_forms.proofs.Formed.{rule_lines}
use Rattle.rank_forms.proofs.Shown.{follow_there, int_step}
use Rattle.rank_forms.proofs.Told.{AreTold, told_all}

-- ---- following all rules
pub few_at : (rules : List PathRule) → ArePathRules rules → (k : ℕ) (d : PathRule) → k < length rules → IsFew (get_or rules k d)
few_at rules are k d low = let e = are.each k d low in record { rows = e.rows; variables = e.variables }

pub follows_all : (negative : Bool) (rules : List PathRule) (place : Place) (all : List Followed) (n : ℕ) → length rules ≤ n
    → AreTold (λ rule followed. IsAlong negative rule place followed) rules (made (pos 0) [] None) all n
    → AreFollowed negative rules place all
follows_all negative rules place all n past h =
    let t = told_all (λ rule followed. IsAlong negative rule place followed) rules (made (pos 0) [] None) all n past h in
    record {
      count = t.0;
      each = λ k rule followed is too. subst (IsAlong negative rule place)
          (get_or_from_slice_get all k followed (made (pos 0) [] None) too) (t.1 k rule is);
    }

pub follows_none : (negative : Bool) (rules : List PathRule) (place : Place) (n : ℕ) (rule : PathRule) (found : Option Followed)
    → slice_get rules n ≡ Some rule → found ≡ None → TellsFollowed negative rule place found → TellsAll negative rules place None
follows_none negative rules place n rule None is e h = (n, rule, is, h)
follows_none negative rules place n rule (Some followed) is e h = absurd (some_not followed e)
  where
    some_not : (a : Followed) → ◌≡◌ {A = Option Followed} (Some a) None → ⊥
    some_not a e = absurd (cc)

pub follows_some : (negative : Bool) (rule : PathRule) (place : Place) (found : Option Followed) (followed : Followed)
    → found ≡ Some followed → TellsFollowed negative rule place found → IsAlong negative rule place followed
follows_some negative rule place found followed e h = subst (TellsFollowed negative rule place) e h

pub item_at : (rules : List PathRule) (n : ℕ) (rule : PathRule) → n < length rules → rule ≡ get_or rules n rule
    → slice_get rules n ≡ Some rule
item_at rules n rule low e = slice_get-get_or rules n rule low ∙ ap some (sym e)
  where
    some : PathRule → Option PathRule
    some x = Some x

-- ---- the whole

-- the steps of the definition are between the ends that were found
falls_most : (negative : Bool) (rule : PathRule) (place : Place) (followed : Followed) (c : ℤ)
    → IsAlong negative rule place followed → StepsDown negative rule place c → c ≤ℤ followed.falls
falls_most negative rule place followed c along steps =
    let first : steps.start ≡ along.start = same_Some steps.start along.start
    (sym (stands_is rule.first false place steps.start steps.ends.first)
    ∙ stands_is rule.first false place along.start along.ends.first) in
    let last : steps.finish ≡ along.finish = same_Some steps.finish along.finish
    (sym (stands_is rule.last false place steps.finish steps.ends.last)
    ∙ stands_is rule.last false place along.finish along.ends.last) in
    subst (λ (x : ℤ). x ≤ℤ followed.falls) steps.adds
    (along.steps.most steps.links (subst (λ (x : ℕ). IsWay (IsFallLink negative rule.rows) along.start steps.links x) last
    (subst (λ (x : ℕ). IsWay (IsFallLink negative rule.rows) x steps.links steps.finish) first steps.way)))

bound_there : (found : Option Bound) (test : Bool) → test ≡ true → (found ≡ None → test ≡ false) → (bound : Bound) × (found ≡ Some bound)
bound_there None test t h = absurd (clash test t (h refl))
  where
    clash : (x : Bool) → x ≡ true → x ≡ false → ⊥
    clash true e f = absurd (cc)
    clash false e f = absurd (cc)
bound_there (Some bound) test t h = (bound, refl)

sign_small : (negative : Bool) → unsigned_abs (sign negative) ≤ 4
sign_small true = omega (arith, ints)
sign_small false = omega (arith, ints)

step_made : (negative : Bool) (rules : List PathRule) (place : Place) (all : List Followed) (constant : ℤ) (cuts : List ℕ)
    → ArePathRules rules → StepwiseRanks rules negative place → AreFollowed negative rules place all
    → constant ≡ or_zero (needed None all) → AreCuts rules cuts
    → IsRankStep rules (record {
      size = false;
      weights = [];
      forms = forms_over rules false ((place, sign negative) ∷ []) constant
          cuts;
      rules = list_from 0 all;
    })
step_made negative rules place all constant cuts are ranks follows k c =
    let parts : List (Place × ℤ) = (place, sign negative) ∷ [] in
    let fallen = follow_there all rules ranks.falling ranks.fallen follows.count ranks.there in
    let along = follows.each ranks.falling ranks.fallen fallen.0 ranks.there fallen.1 in
    let start : ranks.falls.start ≡ along.start = same_Some ranks.falls.start along.start
    (sym (stands_is ranks.fallen.first false place ranks.falls.start ranks.falls.ends.first)
    ∙ stands_is ranks.fallen.first false place along.start along.ends.first) in
    let bounded : has_bound negative along.start ranks.fallen.rows ≡ true = ap (λ (x : ℕ). has_bound negative x ranks.fallen.rows)
    (sym start) ∙ bound_found negative ranks.fallen ranks.falls.start ranks.bounded in
    let bound = bound_there fallen.0.bound (has_bound negative along.start ranks.fallen.rows) bounded along.steps.unbounded in
    int_step rules parts all constant cuts are (record { few = omega arith; small = (sign_small negative, tt) }) c k (record {
      count = follows.count;
      each = λ n rule followed is e.
          let a = follows.each n rule followed is e in
          let some = ranks.each n rule is in
          record {
            start = (a.start, sign negative) ∷ [];
            finish = (a.finish, sign negative) ∷ [];
            lines = rule_lines false [] rules parts constant cuts n rule ((a.start, sign negative) ∷ [])
                ((a.finish, sign negative) ∷ []) are c is (record { first = (a.ends.first, refl, tt); last = (a.ends.last, refl, tt) });
            shown = a.steps.shown;
            falls = int_through (pos 0) some.0 followed.falls some.2 (falls_most negative rule place followed some.0 a some.1);
          };
    }) (record {
      number = ranks.falling;
      followed = fallen.0;
      there = fallen.1;
      falls = int_through (pos 1) ranks.amount fallen.0.falls ranks.strictly
          (falls_most negative ranks.fallen place fallen.0 ranks.amount along ranks.falls);
      bound = bound.0;
      bounded = bound.1;
    })

pub step_is : (negative : Bool) (rules : List PathRule) (place : Place) (all : List Followed) (constant : ℤ)
    (parts : List (Place × ℤ)) (cuts : List ℕ) (forms : List CutForm) (listed : List RankRule) (weights : List (ℕ × ℤ))
    → ArePathRules rules → StepwiseRanks rules negative place → AreFollowed negative rules place all
    → constant ≡ or_zero (needed None all) → parts ≡ (place, sign negative) ∷ [] → AreCuts rules cuts
    → forms ≡ forms_over rules false parts constant cuts → listed ≡ list_from 0 all → weights ≡ []
    → IsRankStep rules (record { size = false; weights = weights; forms = forms; rules = listed })
step_is negative rules place all constant parts cuts forms listed weights are ranks follows k p c f l w =
    subst (λ (x : List CutForm). IsRankStep rules (record { size = false; weights = weights; forms = x; rules = listed }))
    (sym (f ∙ ap (λ (x : List (Place × ℤ)). forms_over rules false x constant cuts) p))
    (subst (λ (x : List RankRule). IsRankStep rules
    (record {
      size = false;
      weights = weights;
      forms = forms_over rules false ((place, sign negative) ∷ []) constant cuts;
      rules = x;
    })) (sym l)
    (subst (λ (x : List (ℕ × ℤ)). IsRankStep rules
    (record {
      size = false;
      weights = x;
      forms = forms_over rules false ((place, sign negative) ∷ []) constant cuts;
      rules
          = list_from 0 all;
    })) (sym w) (step_made negative rules place all constant cuts are ranks follows k c)))

pub no_rank : (negative : Bool) (rules : List PathRule) (place : Place) → StepwiseRanks rules negative place
    → TellsAll negative rules place None → NoStepwiseForm rules
no_rank negative rules place ranks tells = absurd (let some = ranks.each tells.0 tells.1 tells.2 in tells.3 some.0 some.1)
