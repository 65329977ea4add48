-- Changes: how the int at a place changes along a rule, by the int links of the rows.
use Rattle.std.specs.Prelude.{ℕ, ℤ, ◌≡◌, false, List}
use Rattle.lin_core.specs.declared.rows.WRow.{WRow}
use Rattle.descent.specs.declared.rules.PathRule.{PathRule}
use Rattle.descent.specs.declared.rules.Place.{Place}
use Rattle.rank_forms.specs.declared.rule_links.links.Link.{Link}
use Rattle.rank_forms.specs.rule_links.Links.{IsIntLink, IsWay, total}
use Rattle.rank_forms.specs.rule_links.Positions.{AreEnds}

-- one variable is another one plus c: a list of int links leads there, and every such list adds up to c
pub record IsChange (rows : List WRow) (u v : ℕ) (c : ℤ) : Type 0 where
  pub links : List Link
  pub way : IsWay (IsIntLink rows) u links v
  pub adds : total links ≡ c
  pub each : (other : List Link) → IsWay (IsIntLink rows) u other v → total other ≡ c

-- along a rule the int at a place changes by c
pub record ChangesBy (rule : PathRule) (place : Place) (c : ℤ) : Type 0 where
  pub start : ℕ
  pub finish : ℕ
  pub ends : AreEnds rule false place start finish
  pub change : IsChange rule.rows start finish c

-- along a rule some list of int links says that the int at a place moves by c. Where other lists say something else, the rule can never be
-- taken
pub record MovesBy (rule : PathRule) (place : Place) (c : ℤ) : Type 0 where
  pub start : ℕ
  pub finish : ℕ
  pub ends : AreEnds rule false place start finish
  pub links : List Link
  pub way : IsWay (IsIntLink rule.rows) start links finish
  pub adds : total links ≡ c
