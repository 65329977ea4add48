-- Following: what an int, or its negative, falls by step by step along a rule, and the rows that show it.
use Rattle.std.specs.Prelude.{ℕ, ℤ, pos, negsuc, ◌≡◌, ◌≤◌, ◌^◌, ◌+ℤ◌, ◌-ℤ◌, ◌≤ℤ◌, Bool, false, List, [], ◌∷◌, Option, Some}
use Rattle.std.specs.Prelude.{None, if◌then◌else◌, length, unsigned_abs}
use Rattle.lin_core.specs.declared.rows.WRow.{WRow}
use Rattle.lin_core.specs.Combination.{summed_coefficient, summed_constant, first_fault}
use Rattle.lin_core.specs.Rows.{Row, coefficient_of}
use Rattle.lin_core.specs.Weights.{rows_under, unweighed}
use Rattle.descent.specs.declared.rules.PathRule.{PathRule}
use Rattle.descent.specs.declared.rules.Place.{Place}
use Rattle.rank_forms.specs.declared.rule_links.links.Link.{Link}
use Rattle.rank_forms.specs.declared.rule_links.links.Tie.{Tie}
use Rattle.rank_forms.specs.declared.following.Bound.{Bound}
use Rattle.rank_forms.specs.declared.following.Followed.{Followed}
use Rattle.rank_forms.specs.rule_links.Links.{IsWay, total}
use Rattle.rank_forms.specs.rule_links.Positions.{AreEnds}
use Rattle.rank_forms.specs.rule_links.Falls.{has_bound}
use Rattle.rank_forms.specs.rule_links.FallLinks.{IsFallLink, StepsDown, sign}

-- how often the row of a fall link counts
abbrev pub step_times : Tie → ℤ
step_times tie = if tie.back then negsuc 0 else pos 1

-- what is followed along a rule, made of what falls, of the multipliers that show it, and of the bound at the start
abbrev pub made : ℤ → List (ℕ × ℤ) → Option Bound → Followed
made falls fall bound = record { falls = falls; fall = fall; bound = bound }

-- the multipliers show that terms and a number are at least 0
pub record IsBoundAt (rows : List Row) (start : List (ℕ × ℤ)) (bound : Bound) : Type 0 where
  pub fault : first_fault rows bound.rows ≡ None
  pub few : length bound.rows ≤ length rows
  pub coefficients : (variable : ℕ) → summed_coefficient rows bound.rows variable ≡ coefficient_of variable start
  pub constant : summed_constant rows bound.rows ≡ bound.base
  pub small : unsigned_abs bound.base ≤ 2 ^ 40

-- the multipliers show what terms fall by from the start to the end
pub record IsFollowed (rows : List Row) (start finish : List (ℕ × ℤ)) (followed : Followed) : Type 0 where
  pub fault : first_fault rows followed.fall ≡ None
  pub few : length followed.fall ≤ length rows
  pub coefficients : (variable : ℕ) → summed_coefficient rows followed.fall variable ≡ coefficient_of variable start -ℤ
      coefficient_of variable finish
  pub constant : summed_constant rows followed.fall +ℤ followed.falls ≡ pos 0
  pub bound : (bound : Bound) → followed.bound ≡ Some bound → IsBoundAt rows start bound

-- step by step from one variable to another one, where nothing falls by more
pub record AreSteps (negative : Bool) (rows : List WRow) (start finish : ℕ) (followed : Followed) : Type 0 where
  pub shown : IsFollowed (rows_under unweighed rows) ((start, sign negative) ∷ []) ((finish, sign negative) ∷ []) followed
  pub most : (links : List Link) → IsWay (IsFallLink negative rows) start links finish → total links ≤ℤ followed.falls
  pub unbounded : followed.bound ≡ None → has_bound negative start rows ≡ false

-- along a rule, step by step from the variable at the place where it starts to that where it ends, and nothing falls by more
pub record IsAlong (negative : Bool) (rule : PathRule) (place : Place) (followed : Followed) : Type 0 where
  pub start : ℕ
  pub finish : ℕ
  pub ends : AreEnds rule false place start finish
  pub steps : AreSteps negative rule.rows start finish followed

-- what is told of the steps of a place's int, or of its negative, along a rule: nothing only where no steps lead along it
abbrev pub TellsFollowed : Bool → PathRule → Place → Option Followed → Type 0
TellsFollowed negative rule place None = (c : ℤ) → StepsDown negative rule place c → ⊥
TellsFollowed negative rule place (Some followed) = IsAlong negative rule place followed

-- so few rows and variables as a rule of a graph has
pub record IsFew (rule : PathRule) : Type 0 where
  pub rows : length rule.rows ≤ 65536
  pub variables : rule.vars ≤ 65536
