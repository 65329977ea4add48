-- Words of private calls: how the ties of a path are gone along.
use Rattle.std.specs.Prelude.{ℕ, ℤ, ◌≡◌, ◌<◌}
use Rattle.std.specs.Prelude.{List, Option, Some, if◌then◌else◌}
use Rattle.std.specs.Prelude.{is_none, sum_by}
use Rattle.std.specs.List.{All}
use Rattle.lin_core.specs.declared.rows.WRow.{WRow}
use Rattle.rank_forms.specs.declared.rule_links.links.Link.{Link}
use Rattle.rank_forms.specs.declared.rule_links.links.Tie.{Tie}
use Rattle.rank_forms.specs.rule_links.Links.{IsIntLink}
use Rattle.rank_forms.specs.rule_links.Ties.{InTies, Covers, IsReached, ties_from, Known, IsKnownBy}

-- how many variables aren't known
abbrev pub unknown : Known → ℕ
unknown known = sum_by (λ come. if is_none come then 1 else 0) known

-- all ties lead to variables below a number
abbrev pub AreBelow : List Tie → ℕ → Type 0
AreBelow ties span = All (λ (tie : Tie). tie.link.to < span) ties

-- what one variable has more than another one is told
pub record IsDifference (ties : List Tie) (start finish : ℕ) (more : Option ℤ) : Type 0 where
  pub sound : (by : ℤ) → more ≡ Some by → IsReached ties start finish by
  pub complete : (by : ℤ) → IsReached ties start finish by → (c : ℤ) × (more ≡ Some c)
  pub known : (by : ℤ) → more ≡ Some by → IsKnownBy ties start finish by

-- the ties are those of a path's rows
pub record AreIntTies (rows : List WRow) (ties : List Tie) : Type 0 where
  pub sound : (link : Link) → InTies ties link → IsIntLink rows link
  pub complete : (link : Link) → IsIntLink rows link → Covers ties link.from link.to
  pub is : ties ≡ ties_from rows 0 rows
