-- Rules that are shown one by one make a rank step.
use Rattle.std.proofs.Common.{◌≡◌, ℕ, ◌≤◌, ◌^◌, Bool, true, false, cond, List, [], ◌∷◌, length, get_or, ℤ, pos, ◌≤ℤ◌, Option, Some}
use Rattle.std.proofs.Common.{None, subst, ap, arith, refl, ◌∙◌, sym, rules}
use Rattle.std.specs.Prelude.{slice_get, int_lt, unsigned_abs, IsTrue}
use Rattle.std.proofs.lemmas.Int.{ints}
use Rattle.std.proofs.lemmas.List.{length-map}
use Rattle.std.proofs.lemmas.List.Elements.{All-from_recursion}
use Rattle.std.proofs.lemmas.Option.{slice_get_within, slice_get-get_or}
use Rattle.list_views.proofs.Quantified.{all_at}
use Rattle.lin_core.specs.Rows.{Rise}
use Rattle.lin_core.specs.Weights.{AreWeights, row_under, rows_under}
use Rattle.lin_core.specs.declared.rows.WRow.{WRow}
use Rattle.descent.specs.declared.proof.CutForm.{CutForm}
use Rattle.descent.specs.declared.rules.PathRule.{PathRule}
use Rattle.descent.specs.declared.rules.Place.{Place}
use Rattle.descent.specs.Rankings.{Ranking, weigh_of, weak_fault, strict_fault, bounded_fault}
use Rattle.descent.specs.Steps.{numbers_from, ranking_fault, ranking_of}
use Rattle.rank_forms.specs.declared.following.Bound.{Bound}
use Rattle.rank_forms.specs.declared.following.Followed.{Followed}
use Rattle.rank_forms.specs.Following.{IsFollowed}
use Rattle.rank_forms.specs.Forms.{AreCuts, forms_over, list_from, needed, or_zero}
use Rattle.rank_forms.specs.Graphs.{ArePathRules, IsPathRule}
use Rattle.rank_forms.specs.RankSteps.{IsCutOf, IsLinear, IsRankStep, has_strict}
use Rattle.rank_forms.proofs.Bases.{AreSmall, all_few, base_most, constant_small, one_strict, ranked}
use Rattle.rank_forms.proofs.Formed.{AreParts, forms_own, forms_plain, forms_rise, forms_small}
use Rattle.rank_forms.proofs.Lined.{AreLines, bounded_none, ranking_with, strict_none, weak_none}

-- along a rule the form of the ranking never rises
pub record IsShown (ranking : Ranking) (constant : ℤ) (rule : PathRule) (followed : Followed) : Type 0 where
  pub start : List (ℕ × ℤ)
  pub finish : List (ℕ × ℤ)
  pub lines : AreLines ranking rule start finish constant
  pub shown : IsFollowed (rows_under (weigh_of ranking) rule.rows) start finish followed
  pub falls : pos 0 ≤ℤ followed.falls

-- and on each of the rules
pub record AreShown (ranking : Ranking) (constant : ℤ) (rules : List PathRule) (all : List Followed) : Type 0 where
  pub count : length all ≡ length rules
  pub each : (n : ℕ) (rule : PathRule) (followed : Followed) → slice_get rules n ≡ Some rule → slice_get all n ≡ Some followed
      → IsShown ranking constant rule followed

-- on one of them it falls
pub record HasFallen (all : List Followed) : Type 0 where
  pub number : ℕ
  pub followed : Followed
  pub there : slice_get all number ≡ Some followed
  pub falls : pos 1 ≤ℤ followed.falls
  pub bound : Bound
  pub bounded : followed.bound ≡ Some bound

rule_there : (rules : List PathRule) (all : List Followed) (n : ℕ) (followed : Followed) → length all ≡ length rules
    → slice_get all n ≡ Some followed → (rule : PathRule) × (slice_get rules n ≡ Some rule)
rule_there [] all n followed c e = absurd (let low = slice_get_within all n followed e in omega (arith, low, c))
rule_there (rule ∷ rest) all n followed c e = (
  get_or (rule ∷ rest) n rule,
  slice_get-get_or (rule ∷ rest) n rule
      (let low = slice_get_within all n followed e in omega (arith, low, c)),
)

pub follow_there : (all : List Followed) (rules : List PathRule) (n : ℕ) (rule : PathRule) → length all ≡ length rules
    → slice_get rules n ≡ Some rule → (followed : Followed) × (slice_get all n ≡ Some followed)
follow_there [] rules n rule c e = absurd (let low = slice_get_within rules n rule e in omega (arith, low, c))
follow_there (followed ∷ rest) rules n rule c e = (
  get_or (followed ∷ rest) n followed,
  slice_get-get_or (followed ∷ rest) n followed
      (let low = slice_get_within rules n rule e in omega (arith, low, c)),
)

strict_falls : (test : Bool) (falls : ℤ) (found : Option Bound) (bound : Bound) → int_lt (pos 0) falls ≡ test
    → cond test found None ≡ Some bound → (pos 1 ≤ℤ falls) × (found ≡ Some bound)
strict_falls true falls found bound t e = (omega (arith, ints, t), e)
strict_falls false falls found bound t e = absurd (none_not bound e)
  where
    none_not : (a : Bound) → ◌≡◌ {A = Option Bound} None (Some a) → ⊥
    none_not a e = absurd (cc)

strict_there : (test : Bool) (falls : ℤ) (found : Option Bound) (bound : Bound) → int_lt (pos 0) falls ≡ test → pos 1 ≤ℤ falls
    → found ≡ Some bound → cond test found None ≡ Some bound
strict_there true falls found bound t h e = e
strict_there false falls found bound t h e = absurd (omega (arith, ints, t, h))

-- no fault
pub all_hold : (ranking : Ranking) (constant : ℤ) (rules : List PathRule) (all : List Followed)
    → constant ≡ or_zero (needed None all) → AreShown ranking constant rules all
    → ranking_fault ranking rules (numbers_from 0 (length rules)) (list_from 0 all) ≡ None
all_hold ranking constant rules all k h = ranked (weak_fault ranking) (strict_fault ranking) (bounded_fault ranking) rules all
    h.count (λ n rule followed is e.
    let a = h.each n rule followed is e in
    record {
      weak_none = weak_none ranking rule n a.start a.finish constant followed a.lines a.shown a.falls;
      strict_none = λ one s.
          let parts = strict_falls (int_lt (pos 0) followed.falls) followed.falls followed.bound one refl s in (
            strict_none ranking rule n a.start a.finish constant followed a.lines a.shown parts.0,
            bounded_none ranking rule n
                a.start a.finish constant one a.lines (a.shown.bound one parts.1)
                (subst (λ (x : ℤ). one.base ≤ℤ x) (sym k) (base_most all n followed one e s)),
          );
    })

few_rows : (weigh : ℕ → ℤ) (rows : List WRow) (n : ℕ) → n ≤ length (rows_under weigh rows) → length rows ≤ 65536 → n ≤ 65536
few_rows weigh rows n h k = let e = length-map rows (row_under weigh) in omega (arith, h, k, e)

pub is_true : (x : Bool) → x ≡ true → IsTrue x
is_true x e = search rules

made_step : (size : Bool) (weights other : List (ℕ × ℤ)) (rules : List PathRule) (parts : List (Place × ℤ)) (all : List Followed)
    (constant : ℤ) (cuts : List ℕ) → ArePathRules rules → AreParts parts → AreCuts rules cuts → AreWeights weights
    → Rise 4294967296 weights
    → IsLinear (record {
      size = size;
      weights = weights;
      forms = forms_over rules size parts constant cuts;
      rules = list_from 0 all;
    }) → ranking_of (record {
      size = size;
      weights = weights;
      forms = forms_over rules size parts constant cuts;
      rules =
          list_from 0 all;
    }) ≡ ranking_with size other (forms_over rules size parts constant cuts)
    → constant ≡ or_zero (needed None all) → AreShown (ranking_with size other (forms_over rules size parts constant cuts)) constant
    rules all → HasFallen all
    → IsRankStep rules (record {
      size = size;
      weights = weights;
      forms = forms_over rules size parts constant cuts;
      rules =
          list_from 0 all;
    })
made_step size weights other rules parts all constant cuts are small c weigh rise linear same k shown fallen =
    let low : AreSmall all = λ n followed bound e b. let rule = rule_there rules all n followed shown.count e in
    ((shown.each n rule.0 followed rule.1 e).shown.bound bound b).small in
    let forms = forms_over rules size parts constant cuts in
    record {
      limits = record {
        forms = forms_small size rules parts constant cuts are.each small
            (subst (λ (x : ℤ). unsigned_abs x ≤ 2 ^ 40) (sym k) (constant_small all low));
        weights = weigh;
        rules = all_few 0 all (λ n followed e.
            let rule = rule_there rules all n followed shown.count e in
            let some = (shown.each n rule.0 followed rule.1 e).shown in
            let rows = (all_at IsPathRule rules n rule.0 are.each rule.1).rows in (
              few_rows (weigh_of (ranking_with size other forms)) rule.0.rows (length followed.fall) some.few rows,
              λ bound b.
                  few_rows (weigh_of (ranking_with size other forms)) rule.0.rows (length bound.rows) (some.bound bound b).few rows,
            ));
      };
      rise = forms_rise size rules parts constant 0 c.end cuts c.rise;
      own = All-from_recursion (λ (form : CutForm). IsCutOf rules form.cut) forms
          (forms_own (IsCutOf rules) size rules parts constant cuts c.only);
      classes = rise;
      linear = linear;
      strict = is_true (has_strict (list_from 0 all))
          (one_strict fallen.number all fallen.followed fallen.bound fallen.there
          (strict_there (int_lt (pos 0) fallen.followed.falls) fallen.followed.falls fallen.followed.bound fallen.bound refl
          fallen.falls fallen.bounded));
      holds = ap (λ (r : Ranking). ranking_fault r rules (numbers_from 0 (length rules)) (list_from 0 all)) same
          ∙ all_hold (ranking_with size other forms) constant rules all k shown;
    }

-- a form of ints
pub int_step : (rules : List PathRule) (parts : List (Place × ℤ)) (all : List Followed) (constant : ℤ) (cuts : List ℕ)
    → ArePathRules rules → AreParts parts → AreCuts rules cuts → constant ≡ or_zero (needed None all)
    → AreShown (ranking_with false [] (forms_over rules false parts constant cuts)) constant rules all → HasFallen all
    → IsRankStep rules (record { size = false; weights = []; forms = forms_over rules false parts constant cuts; rules = list_from 0 all })
int_step rules parts all constant cuts are small c k shown fallen = made_step false [] [] rules parts all constant cuts are small c
    (λ i d less. absurd (omega (arith, less))) tt (λ e. (refl, forms_plain rules parts constant cuts)) refl k shown fallen

-- a form of sizes
pub size_step : (weights : List (ℕ × ℤ)) (rules : List PathRule) (parts : List (Place × ℤ)) (all : List Followed) (constant : ℤ)
    (cuts : List ℕ) → ArePathRules rules → AreParts parts → AreCuts rules cuts → AreWeights weights → Rise 4294967296 weights
    → constant ≡ or_zero (needed None all) → AreShown (ranking_with true weights (forms_over rules true parts constant cuts))
    constant rules all → HasFallen all
    → IsRankStep rules (record {
      size = true;
      weights = weights;
      forms = forms_over rules true parts constant cuts;
      rules =
          list_from 0 all;
    })
size_step weights rules parts all constant cuts are small c weigh rise k shown fallen = made_step true weights weights rules parts
    all constant cuts are small c weigh rise (λ e. absurd (not_true e)) refl k shown fallen
  where
    not_true : true ≡ false → ⊥
    not_true e = absurd (cc)
