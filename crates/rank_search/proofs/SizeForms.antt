-- A size that ranks the rules is shown on each rule.
use Rattle.std.proofs.Common.{◌≡◌, ℕ, true, List, [], ◌∷◌, length, get_or, ℤ, pos, ◌≤ℤ◌, Option, Some, None, subst, ap, arith, refl}
use Rattle.std.proofs.Common.{◌∙◌, sym}
use Rattle.std.specs.Prelude.{slice_get}
use Rattle.std.specs.List.{All}
use Rattle.std.proofs.lemmas.Int.{ints}
use Rattle.std.proofs.lemmas.List.{length-map}
use Rattle.std.proofs.lemmas.Option.{same_Some, none-some}
use Rattle.list_views.proofs.Quantified.{all_at}
use Rattle.list_views.proofs.Orders.{int_through}
use Rattle.lin_core.specs.declared.rows.WRow.{WRow}
use Rattle.lin_core.specs.Weights.{row_under, rows_under, weight_in}
use Rattle.descent.specs.Conditions.{IsRule}
use Rattle.descent.specs.declared.proof.CutForm.{CutForm}
use Rattle.descent.specs.declared.proof.RankRule.{RankRule}
use Rattle.descent.specs.declared.rules.PathRule.{PathRule}
use Rattle.descent.specs.declared.rules.Place.{Place}
use Rattle.rank_forms.specs.declared.following.Bound.{Bound}
use Rattle.rank_forms.specs.declared.following.Followed.{Followed}
use Rattle.rank_forms.specs.declared.rule_links.links.Come.{Come}
use Rattle.rank_forms.specs.declared.rule_links.links.Link.{Link}
use Rattle.rank_forms.specs.declared.rule_links.links.Tie.{Tie}
use Rattle.rank_forms.specs.rule_links.Counting.{multipliers_of}
use Rattle.rank_forms.specs.Following.{IsFollowed}
use Rattle.rank_forms.specs.Forms.{AreCuts, forms_over, list_from, needed, or_zero}
use Rattle.rank_forms.specs.Graphs.{ArePlainRules, IsPathRule, IsPlainRule, IsSizeSlot}
use Rattle.rank_forms.specs.rule_links.Links.{IsWay, total}
use Rattle.rank_forms.specs.rule_links.SizeLinks.{IsSizeLink, SizeFalls}
use Rattle.rank_search.specs.Plain.{NoPlainForm, RanksSize}
use Rattle.rank_forms.specs.rule_links.Positions.{AreEnds}
use Rattle.rank_forms.specs.RankSteps.{IsRankStep}
use Rattle.rank_forms.specs.Reasons.{TellsEach, followed_by, followed_of}
use Rattle.rank_forms.specs.rule_links.Falls.{IsAtLeast, zero_from}
use Rattle.rank_forms.specs.rule_links.Ties.{InTies}
use Rattle.rank_forms.specs.SizeReasons.{TellsSizeAt, size_made, size_reasons_by}
use Rattle.rank_forms.specs.Weighing.{AreOnes}
use Rattle.rank_forms.proofs.Along.{variable_low}
use Rattle.rank_forms.proofs.Changed.{stands_is}
use Rattle.rank_forms.proofs.Formed.{rule_lines}
use Rattle.rank_search.proofs.IntForms.{is_size, slot_has}
use Rattle.rank_forms.proofs.Lined.{ranking_with}
use Rattle.rank_forms.proofs.Reasoned.{reasoned_followed}
use Rattle.rank_forms.proofs.Shown.{IsShown, follow_there, size_step}
use Rattle.rank_forms.proofs.SizeParts.{zero_row_found}
use Rattle.rank_forms.proofs.SizeShifts.{IsWeighed, size_reasoned}
use Rattle.rank_forms.proofs.Weighed.{rule_weighed}

-- links of the definition are ties
way_in : (rows : List WRow) (ties : List Tie) → ((link : Link) → IsSizeLink rows link → InTies ties link)
    → (u v : ℕ) (links : List Link) → IsWay (IsSizeLink rows) u links v → IsWay (InTies ties) u links v
way_in rows ties complete u v [] h = h
way_in rows ties complete u v (link ∷ rest) h =
    (record { begins = h.0.begins; is = complete link h.0.is }, way_in rows ties complete link.to v rest h.1)

known_of : (found : Option Come) (by : ℤ) → IsAtLeast found by → (come : Come) × (found ≡ Some come) × (by ≤ℤ come.by)
known_of None by h = absurd h
known_of (Some come) by h = (come, refl, h)

-- ---- a rule along which a size falls
pub record IsSizeTold (weigh : ℕ → ℤ) (rule : PathRule) (place : Place) (c : ℤ) (found : Option Followed) : Type 0 where
  pub followed : Followed
  pub is : found ≡ Some followed
  pub start : ℕ
  pub finish : ℕ
  pub ends : AreEnds rule true place start finish
  pub shown : IsFollowed (rows_under weigh rule.rows) ((start, pos 1) ∷ []) ((finish, pos 1) ∷ []) followed
  pub falls : c ≤ℤ followed.falls
  pub bound : Bound
  pub bounded : followed.bound ≡ Some bound

pub size_told : (weigh : ℕ → ℤ) (rule : PathRule) (place : Place) (c : ℤ) (found : Option Followed) → IsRule rule → IsPathRule rule
    → IsPlainRule rule → All (IsWeighed weigh) rule.rows → SizeFalls rule place c → TellsSizeAt place rule found
    → IsSizeTold weigh rule place c found
size_told weigh rule place c found is path plain weighed falls tells =
    let start = falls.start in
    let finish = falls.finish in
    let told = tells.0 start finish falls.ends in
    let size = told.1 in
    let ties = size.0 in
    let known = size.1 in
    let longest = size.3 in
    let come = known_of (get_or known finish None) (total falls.links)
    (longest.greatest falls.links finish (way_in rule.rows ties size.2.complete start finish falls.links falls.way)) in
    let slot = falls.ends.first in
    let last = variable_low rule.vars rule.last true place finish is.last (stands_is rule.last true place finish falls.ends.last) in
    let has = slot_has (IsSizeSlot rule.rows plain.sizes.sizes) true place rule.first slot.0 plain.sizes.slots slot.1 in
    let sized = has.0 (is_size slot.0.size has.1) start slot.2 in
    let row = zero_row_found rule.rows start sized.1 in
    let reasons = size_made rule.rows come.0 row.0 known finish in
    let few = path.variables in
    let reasoned = size_reasoned rule.vars weigh rule.rows plain.sizes.sizes ties start finish known come.0 row.0 is.rows
    plain.sizes.kinds weighed sized.0 (omega (arith, last, few)) size.2 longest come.1 row.1 in
    record {
      followed = followed_by (length rule.rows) reasons;
      is = told.2 ∙ ap (followed_of (length rule.rows))
          (size.4 ∙ ap (λ (o : Option Come). size_reasons_by rule.rows o (zero_from start 0 rule.rows) known finish) come.1
          ∙ ap (λ (o : Option ℕ). size_reasons_by rule.rows (Some come.0) o known finish) row.1);
      start = start;
      finish = finish;
      ends = falls.ends;
      shown = reasoned_followed (rows_under weigh rule.rows) ((start, pos 1) ∷ []) ((finish, pos 1) ∷ []) 268496895 0
          (length rule.rows) reasons reasoned (sym (length-map rule.rows (row_under weigh))) (omega arith) (omega arith);
      falls = subst (λ (x : ℤ). x ≤ℤ come.0.by) falls.adds come.2;
      bound = record { rows = multipliers_of (length rule.rows) reasons.bound; base = reasons.base };
      bounded = refl;
    }

-- ---- the rules

told_at : (rules : List PathRule) (weights : List (ℕ × ℤ)) (place : Place) (n : ℕ) (rule : PathRule) (c : ℤ)
    (found : Option Followed) → ArePlainRules rules → AreOnes rules weights → slice_get rules n ≡ Some rule → SizeFalls rule place c
    → TellsSizeAt place rule found → IsSizeTold (weight_in weights) rule place c found
told_at rules weights place n rule c found are ones is falls tells = size_told (weight_in weights) rule place c found
    (all_at IsRule rules n rule are.paths.limits is) (all_at IsPathRule rules n rule are.paths.each is)
    (all_at IsPlainRule rules n rule are.plain is) (rule_weighed rules weights n rule ones is) falls tells

size_made_step : (rules : List PathRule) (place : Place) (all : List Followed) (constant : ℤ) (weights : List (ℕ × ℤ))
    (cuts : List ℕ) → ArePlainRules rules → RanksSize rules place → TellsEach (TellsSizeAt place) rules (Some all)
    → AreOnes rules weights → constant ≡ or_zero (needed None all) → AreCuts rules cuts
    → IsRankStep rules (record {
      size = true;
      weights = weights;
      forms = forms_over rules true ((place, pos 1) ∷ []) constant cuts;
      rules = list_from 0 all;
    })
size_made_step rules place all constant weights cuts are ranks tells ones k c =
    let parts : List (Place × ℤ) = (place, pos 1) ∷ [] in
    let fallen = follow_there all rules ranks.falling ranks.fallen tells.0 ranks.there in
    let told = told_at rules weights place ranks.falling ranks.fallen ranks.falls.0 (Some fallen.0) are ones ranks.there
    ranks.falls.1 (tells.1 ranks.falling ranks.fallen fallen.0 ranks.there fallen.1) in
    let same = same_Some fallen.0 told.followed told.is in
    size_step weights rules parts all constant cuts are.paths (record { few = omega arith; small = (omega (arith, ints), tt) }) c
    ones.limits ones.rise k (record {
      count = tells.0;
      each = λ n rule followed is e.
          let some = ranks.each n rule is in
          let t = told_at rules weights place n rule some.0 (Some followed) are ones is some.1 (tells.1 n rule followed is e) in
          subst (λ (f : Followed). IsShown (ranking_with true weights (forms_over rules true parts constant cuts)) constant rule f)
          (sym (same_Some followed t.followed t.is)) (record {
            start = (t.start, pos 1) ∷ [];
            finish = (t.finish, pos 1) ∷ [];
            lines = rule_lines true weights rules parts constant cuts n rule ((t.start, pos 1) ∷ []) ((t.finish, pos 1) ∷ [])
                are.paths c is (record { first = (t.ends.first, refl, tt); last = (t.ends.last, refl, tt) });
            shown = t.shown;
            falls = int_through (pos 0) some.0 t.followed.falls some.2 t.falls;
          });
    }) (record {
      number = ranks.falling;
      followed = fallen.0;
      there = fallen.1;
      falls = subst (λ (f : Followed). pos 1 ≤ℤ f.falls) (sym same)
          (int_through (pos 1) ranks.falls.0 told.followed.falls ranks.falls.2 told.falls);
      bound = told.bound;
      bounded = ap (λ (f : Followed). f.bound) same ∙ told.bounded;
    })

pub size_step_is : (rules : List PathRule) (place : Place) (all : List Followed) (constant : ℤ) (parts : List (Place × ℤ))
    (weights : List (ℕ × ℤ)) (cuts : List ℕ) (forms : List CutForm) (listed : List RankRule) → ArePlainRules rules
    → RanksSize rules place → TellsEach (TellsSizeAt place) rules (Some all) → AreOnes rules weights
    → constant ≡ or_zero (needed None all) → parts ≡ (place, pos 1) ∷ [] → AreCuts rules cuts
    → forms ≡ forms_over rules true parts constant cuts → listed ≡ list_from 0 all
    → IsRankStep rules (record { size = true; weights = weights; forms = forms; rules = listed })
size_step_is rules place all constant parts weights cuts forms listed are ranks tells ones k p c f l =
    subst (λ (x : List CutForm). IsRankStep rules (record { size = true; weights = weights; forms = x; rules = listed }))
    (sym (f ∙ ap (λ (x : List (Place × ℤ)). forms_over rules true x constant cuts) p))
    (subst (λ (x : List RankRule). IsRankStep rules
    (record {
      size = true;
      weights = weights;
      forms = forms_over rules true ((place, pos 1) ∷ []) constant cuts;
      rules = x;
    })) (sym l) (size_made_step rules place all constant weights cuts are ranks tells ones k c))

-- ---- along each rule links lead
by_come : (rule : PathRule) (place : Place) (c : ℤ) (found : Option Followed) → IsRule rule → IsPlainRule rule
    → SizeFalls rule place c → TellsSizeAt place rule found → (followed : Followed) × (found ≡ Some followed)
by_come rule place c found is plain falls tells =
    let start = falls.start in
    let finish = falls.finish in
    let told = tells.0 start finish falls.ends in
    let size = told.1 in
    let come = known_of (get_or size.1 finish None) (total falls.links)
    (size.3.greatest falls.links finish (way_in rule.rows size.0 size.2.complete start finish falls.links falls.way)) in
    let slot = falls.ends.first in
    let has = slot_has (IsSizeSlot rule.rows plain.sizes.sizes) true place rule.first slot.0 plain.sizes.slots slot.1 in
    let row = zero_row_found rule.rows start (has.0 (is_size slot.0.size has.1) start slot.2).1 in (
      followed_by (length rule.rows) (size_made rule.rows come.0 row.0 size.1 finish),
      told.2
          ∙ ap (followed_of (length rule.rows))
          (size.4 ∙ ap (λ (o : Option Come). size_reasons_by rule.rows o (zero_from start 0 rule.rows) size.1 finish) come.1
          ∙ ap (λ (o : Option ℕ). size_reasons_by rule.rows (Some come.0) o size.1 finish) row.1),
    )

pub no_size_step : (rules : List PathRule) (place : Place) → ArePlainRules rules → RanksSize rules place
    → TellsEach (TellsSizeAt place) rules None → NoPlainForm rules
no_size_step rules place are ranks tells =
    let some = ranks.each tells.0 tells.1 tells.2 in
    let told = by_come tells.1 place some.0 None (all_at IsRule rules tells.0 tells.1 are.paths.limits tells.2)
    (all_at IsPlainRule rules tells.0 tells.1 are.plain tells.2) some.1 tells.3 in
    absurd (none-some told.0 told.1)
