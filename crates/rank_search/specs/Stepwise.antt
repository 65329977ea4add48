-- Stepwise forms: an int, or its negative, that is followed step by step along a rule.
use Rattle.std.specs.Prelude.{ℕ, ℤ, pos, ◌≡◌, ◌≤ℤ◌, Bool, List, Some, slice_get}
use Rattle.descent.specs.declared.rules.PathRule.{PathRule}
use Rattle.descent.specs.declared.rules.Place.{Place}
use Rattle.rank_forms.specs.rule_links.FallLinks.{StepsDown, IsBounded}

-- the form never rises on the rules, and falls on a rule where its start is bounded
pub record StepwiseRanks (rules : List PathRule) (negative : Bool) (place : Place) : Type 0 where
  pub each : (n : ℕ) (rule : PathRule) → slice_get rules n ≡ Some rule → (c : ℤ) × StepsDown negative rule place c × (pos 0 ≤ℤ c)
  pub falling : ℕ
  pub fallen : PathRule
  pub there : slice_get rules falling ≡ Some fallen
  pub amount : ℤ
  pub falls : StepsDown negative fallen place amount
  pub strictly : pos 1 ≤ℤ amount
  pub bounded : IsBounded negative fallen falls.start

-- no stepwise form ranks the rules
abbrev pub NoStepwiseForm : List PathRule → Type 0
NoStepwiseForm rules = (negative : Bool) (place : Place) → StepwiseRanks rules negative place → ⊥
