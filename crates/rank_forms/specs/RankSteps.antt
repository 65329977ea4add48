-- What the search gives: a rank step that a closed proof takes for all of the rules, and that removes at least one of them.
use Rattle.std.specs.Prelude.{ℕ, suc, ◌≡◌, ◌⊎◌, ◌≤◌, Bool, true, false, List, [], ◌∷◌, Some, None, IsTrue, length, slice_get}
use Rattle.std.specs.List.{All, list_any}
use Rattle.descent.specs.declared.proof.CutForm.{CutForm}
use Rattle.descent.specs.declared.proof.RankRule.{RankRule}
use Rattle.descent.specs.declared.proof.RankRule.TheVariants.{Weak, Strict}
use Rattle.descent.specs.declared.proof.RankStep.{RankStep}
use Rattle.descent.specs.declared.rules.PathRule.{PathRule}
use Rattle.lin_core.specs.Rows.{Rise}
use Rattle.descent.specs.Conditions.{IsRanked}
use Rattle.descent.specs.Steps.{numbers_from, ranking_of, ranking_fault}

-- a rule is listed as one on which the form falls
abbrev pub is_strict : RankRule → Bool
is_strict (Weak rule fall) = false
is_strict (Strict rule fall bound) = true

-- some rule is listed as one on which the form falls
abbrev pub has_strict : List RankRule → Bool
has_strict listed = list_any (λ (one : RankRule). is_strict one) listed

-- the cuts rise: the first isn't below `low`, and each is above the one before
abbrev pub FormsRise : ℕ → List CutForm → Type 0
FormsRise low [] = Unit {0}
FormsRise low (form ∷ rest) = (low ≤ form.cut) × FormsRise (suc form.cut) rest

-- some rule starts or ends at the cut
pub record IsCutOf (rules : List PathRule) (cut : ℕ) : Type 0 where
  pub n : ℕ
  pub rule : PathRule
  pub is : slice_get rules n ≡ Some rule
  pub ends : (rule.from ≡ cut) ⊎ (rule.to ≡ cut)

-- where sizes don't count, no form has any
abbrev pub HaveNoSizes : List CutForm → Type 0
HaveNoSizes [] = Unit {0}
HaveNoSizes (form ∷ rest) = (form.sizes ≡ []) × HaveNoSizes rest

-- where sizes don't count, no class has a weight and no form has multiples of sizes
abbrev pub IsLinear : RankStep → Type 0
IsLinear step = step.size ≡ false → (step.weights ≡ []) × HaveNoSizes step.forms

-- a rank step that a closed proof takes for the rules, the first of them to the last: its numbers are within their limits, its cuts
-- are cuts of the rules and rise, as do the classes of its weights, and it removes at least one rule
pub record IsRankStep (rules : List PathRule) (step : RankStep) : Type 0 where
  pub limits : IsRanked step
  pub rise : FormsRise 0 step.forms
  pub own : All (λ (form : CutForm). IsCutOf rules form.cut) step.forms
  pub classes : Rise 4294967296 step.weights
  pub linear : IsLinear step
  pub strict : IsTrue (has_strict step.rules)
  pub holds : ranking_fault (ranking_of step) rules (numbers_from 0 (length rules)) step.rules ≡ None
