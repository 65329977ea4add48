-- Words of private calls: how steps along a rule are counted and bounded.
use Rattle.std.specs.Prelude.{ℕ, suc, ℤ, pos, ◌≤◌, ◌^◌, Bool, List, [], ◌∷◌, Option, Some}
use Rattle.std.specs.Prelude.{None, if◌then◌else◌, unsigned_abs}
use Rattle.std.specs.List.{All}
use Rattle.lin_core.specs.declared.rows.WRow.{WRow}
use Rattle.lin_core.specs.Rows.{coefficient_of}
use Rattle.rank_forms.specs.declared.rule_links.links.Link.{Link}
use Rattle.rank_forms.specs.declared.rule_links.links.Tie.{Tie}
use Rattle.rank_forms.specs.declared.following.Bound.{Bound}
use Rattle.rank_forms.specs.declared.following.BoundRow.{BoundRow}
use Rattle.rank_forms.specs.declared.following.Followed.{Followed}
use Rattle.rank_forms.specs.rule_links.Links.{IsWay}
use Rattle.rank_forms.specs.rule_links.Falls.{bounds}
use Rattle.rank_forms.specs.rule_links.FallLinks.{IsFallLink}
use Rattle.rank_forms.specs.Following.{step_times, AreSteps}

abbrev pub step_entries : List Tie → List (ℕ × ℤ)
step_entries [] = []
step_entries (tie ∷ rest) = (tie.row, step_times tie) ∷ step_entries rest

-- one variable alone
abbrev pub unit : ℕ → ℕ → ℤ
unit variable other = coefficient_of variable ((other, pos 1) ∷ [])

-- the first row that bounds a start; the rows are counted from n
abbrev pub bound_from : Bool → ℕ → ℕ → List WRow → Option BoundRow
bound_from negative start n [] = None
bound_from negative start n (row ∷ rest) = if bounds negative start row then Some (record { row = n; base = row.constant }) else
    bound_from negative start (suc n) rest

abbrev pub bounded_by : Option BoundRow → Option Bound
bounded_by None = None
bounded_by (Some row) = Some (record { rows = (row.row, pos 1) ∷ []; base = row.base })

abbrev pub TellsBetween : Bool → List WRow → ℕ → ℕ → Option Followed → Type 0
TellsBetween negative rows start finish None = (links : List Link) → IsWay (IsFallLink negative rows) start links finish → ⊥
TellsBetween negative rows start finish (Some followed) = AreSteps negative rows start finish followed

-- constants are at most 2^40 in size
abbrev pub SmallConstants : List WRow → Type 0
SmallConstants rows = All (λ (row : WRow). unsigned_abs row.constant ≤ 2 ^ 40) rows
