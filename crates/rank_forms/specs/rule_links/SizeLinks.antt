-- Size links: what the size at a place falls by along a rule.
use Rattle.std.specs.Prelude.{ℕ, ℤ, pos, negsuc, ◌≡◌, ◌⊎◌, ◌<◌, ◌+ℤ◌, ◌≤ℤ◌, true, List, [], ◌∷◌, Some, slice_get}
use Rattle.lin_core.specs.declared.rows.RowKind.TheVariants.{IsZero}
use Rattle.lin_core.specs.declared.rows.WRow.{WRow}
use Rattle.lin_core.specs.Rows.{coefficient_of}
use Rattle.descent.specs.declared.rules.PathRule.{PathRule}
use Rattle.descent.specs.declared.rules.Place.{Place}
use Rattle.rank_forms.specs.declared.rule_links.links.Link.{Link}
use Rattle.rank_forms.specs.rule_links.Links.{HasBound, IsAmong, IsWay, total}
use Rattle.rank_forms.specs.rule_links.Positions.{AreEnds}

-- what the weights of a row add, where every class weighs 1
abbrev pub weighed_once : List (ℕ × ℤ) → ℤ
weighed_once [] = pos 0
weighed_once (weight ∷ rest) = weight.1 +ℤ weighed_once rest

-- the row has the variable with the coefficient 1, and every other one, which a row says is at least 0, with one below 0
pub record GivesSize (rows : List WRow) (row : WRow) (u : ℕ) : Type 0 where
  pub one : coefficient_of u row.terms ≡ pos 1
  pub others : (n : ℕ) (term : ℕ × ℤ) → slice_get row.terms n ≡ Some term → (term.0 ≡ u)
      ⊎ ((term.1 ≤ℤ negsuc 0) × HasBound rows term.0 (pos 1) (pos 0))

-- a size link: an equation that gives the size of u as k plus a sum of sizes in which v stands, or, where u and v are its only
-- variables, that of v as -k plus u. The number of v is greater. Classes weigh 1
pub record IsSizeLink (rows : List WRow) (link : Link) : Type 0 where
  pub row : WRow
  pub among : IsAmong rows row
  pub equation : row.kind ≡ IsZero
  pub greater : link.from < link.to
  pub read : (GivesSize rows row link.from × (coefficient_of link.to row.terms ≤ℤ negsuc 0)
      × (link.by +ℤ (row.constant +ℤ weighed_once row.weights) ≡ pos 0))
      ⊎ (((row.terms ≡ (link.from, negsuc 0) ∷ (link.to, pos 1) ∷ []) ⊎ (row.terms ≡ (link.to, pos 1) ∷ (link.from, negsuc 0) ∷ []))
      × (link.by ≡ row.constant +ℤ weighed_once row.weights))

-- along a rule the size at a place falls by at least c: a list of size links that adds up to c leads from the start to the end
pub record SizeFalls (rule : PathRule) (place : Place) (c : ℤ) : Type 0 where
  pub start : ℕ
  pub finish : ℕ
  pub ends : AreEnds rule true place start finish
  pub links : List Link
  pub way : IsWay (IsSizeLink rule.rows) start links finish
  pub adds : total links ≡ c
