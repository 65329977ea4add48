-- What the definitions of this crate say of one another.
use Rattle.std.specs.Prelude.{ℕ, ℤ, pos, ◌≡◌, ◌≤◌, ◌^◌, ◌≤ℤ◌, ◌↔◌, List, None, unsigned_abs}
use Rattle.std.specs.List.{AllByRecursion}
use Rattle.lin_core.specs.declared.rows.Target.{Target}
use Rattle.lin_core.specs.Combination.{IsSumOf, Shows, Shown, AllAllowed, first_fault}
use Rattle.lin_core.specs.Rows.{Row, AllHold, AllRise, value_of_target}
use Rattle.lin_core.specs.Sums.{Sum}

-- a target that is shown is at least 0 wherever the rows hold
abbrev pub ShownTargetsHold : Type 0
ShownTargetsHold = (numbers : ℕ → ℤ) (end : ℕ) (rows : List Row) (target : Target) (multipliers : List (ℕ × ℤ)) → AllRise end rows
    → Shown rows target multipliers → AllHold numbers rows → pos 0 ≤ℤ value_of_target numbers target

-- no multiplier is above 2^31 in size
abbrev pub AllSmall : List (ℕ × ℤ) → Type 0
AllSmall multipliers = AllByRecursion (λ (entry : ℕ × ℤ). unsigned_abs entry.1 ≤ 2 ^ 31) multipliers

-- multipliers have no fault exactly where each may stand at its row and none is too large
abbrev pub FaultlessAreAllowed : Type 0
FaultlessAreAllowed = (rows : List Row) (multipliers : List (ℕ × ℤ))
    → (first_fault rows multipliers ≡ None) ↔ (AllAllowed rows multipliers × AllSmall multipliers)

-- the sum of rows by allowed multipliers shows the targets that are shown from the rows by the multipliers
abbrev pub SumsShow : Type 0
SumsShow = (end : ℕ) (rows : List Row) (target : Target) (multipliers : List (ℕ × ℤ)) (sum : Sum) → AllAllowed rows multipliers
    → IsSumOf end rows multipliers sum → (Shows sum target ↔ Shown rows target multipliers)
