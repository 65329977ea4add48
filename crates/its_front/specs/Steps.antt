-- The steps of a system of rules, and when each sequence of them ends.
use Rattle.std.specs.Prelude.{◌≡◌, ℕ, suc, ◌-◌, ℤ, nat_lt, List, Some, length, slice_get, if◌then◌else◌}
use mathlib.Core.WellFounded.{Acc}
use Rattle.lin_core.specs.Rows.{AllHold}
use Rattle.lin_core.specs.Weights.{rows_under, unweighed}
use Rattle.descent.specs.Chains.{ChainsEnd}
use Rattle.descent.specs.declared.rules.PathRule.{PathRule}
use Rattle.its_front.specs.declared.reading.Its.{Its}
use Rattle.its_front.specs.Systems.{IsSystem}

-- where a system stands: at a location, by its number, with a whole number for each variable, by the variable's number
pub record Standing : Type 0 where
  pub place : ℕ
  pub numbers : ℕ → ℤ

-- the numbers that a rule's rows speak of: below `count` those before the rule, and from there on those after it
abbrev pub numbers_between : ℕ → (ℕ → ℤ) → (ℕ → ℤ) → ℕ → ℤ
numbers_between count before after n = if nat_lt n count then before n else after (n - count)

-- a step from one standing to the next: some rule leads from its location to the other one's, and all rows of the rule hold between them
pub record IsStep (its : Its) (s t : Standing) : Type 0 where
  pub number : ℕ
  pub rule : PathRule
  pub is : slice_get its.rules number ≡ Some rule
  pub from : rule.from ≡ s.place
  pub to : rule.to ≡ t.place
  pub rows : AllHold (numbers_between (length its.vars) s.numbers t.numbers) (rows_under unweighed rule.rows)

-- the steps of a system end: from every standing, whatever steps come after it, one after another, they come to an end
abbrev pub StepsEnd : Its → Type 0
StepsEnd its = (standing : Standing) → Acc (λ (t s : Standing). IsStep its s t) standing

-- a system has no infinite sequence of steps
abbrev pub NoInfiniteWalk : Its → Type 0
NoInfiniteWalk its = (walk : ℕ → Standing) → ((n : ℕ) → IsStep its (walk n) (walk (suc n))) → ⊥

-- where no chain of a system's rules is infinite, the system's steps end
abbrev pub ChainsEndSteps : Type 0
ChainsEndSteps = (its : Its) → IsSystem its → ChainsEnd its.rules → StepsEnd its

-- where a system's steps end, it has no infinite sequence of steps
abbrev pub StepsEndWalks : Type 0
StepsEndWalks = (its : Its) → StepsEnd its → NoInfiniteWalk its
