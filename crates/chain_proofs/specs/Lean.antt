-- Steps without idle parts: what keeps a proof from being longer than it has to be.
use Rattle.std.specs.Prelude.{◌≡◌, ◌⊎◌, ◌≤◌, ◌<◌, ◌+◌, ◌*◌, ℕ, List, Some, IsTrue, length, slice_get}
use Rattle.std.specs.List.{All}
use Rattle.descent.specs.declared.proof.CutForm.{CutForm}
use Rattle.descent.specs.declared.proof.ProofStep.{ProofStep}
use Rattle.descent.specs.declared.proof.ProofStep.TheVariants.{Empty, Split, Rank, Dead}
use Rattle.descent.specs.declared.proof.RankRule.{RankRule}
use Rattle.descent.specs.declared.proof.RankStep.{RankStep}
use Rattle.descent.specs.declared.rules.PathRule.{PathRule}
use Rattle.descent.specs.Steps.{rule_of}
use Rattle.lin_core.specs.Rows.{Rise}
use Rattle.rank_forms.specs.RankSteps.{has_strict, FormsRise, IsLinear}

-- a listed rule starts or ends at the cut
pub record IsOwnCut (rules : List PathRule) (listed : List RankRule) (cut : ℕ) : Type 0 where
  pub place : ℕ
  pub one : RankRule
  pub at : slice_get listed place ≡ Some one
  pub rule : PathRule
  pub is : slice_get rules (rule_of one) ≡ Some rule
  pub meets : (rule.from ≡ cut) ⊎ (rule.to ≡ cut)

-- On some rule the form falls, and there are forms of the step's own cuts alone, one of each, by rising cuts. There is one weight of a
-- class, by rising classes; and where sizes don't count, there are neither weights nor sizes
pub record IsLeanRank (rules : List PathRule) (step : RankStep) : Type 0 where
  pub strict : IsTrue (has_strict step.rules)
  pub own : All (λ (form : CutForm). IsOwnCut rules step.rules form.cut) step.forms
  pub rise : FormsRise 0 step.forms
  pub classes : Rise 4294967296 step.weights
  pub linear : IsLinear step

-- each part of a split has a rule; a rank step takes a rule away, and has one form of each of its own cuts at most; no rule is said to be
-- dead
abbrev pub IsLeanStep : List PathRule → ProofStep → Type 0
IsLeanStep rules Empty = Unit {0}
IsLeanStep rules (Split parts steps) = All (λ (part : List ℕ). 0 < length part) parts
IsLeanStep rules (Rank step rest) = IsLeanRank rules step
IsLeanStep rules (Dead rule multipliers rest) = ⊥

-- at most four steps a rule and four more, and no idle parts in them
pub record AreLean (rules : List PathRule) (steps : List ProofStep) : Type 0 where
  pub few : length steps ≤ 4 * length rules + 4
  pub lean : All (λ (step : ProofStep). IsLeanStep rules step) steps
