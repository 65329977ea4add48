-- Fall links: what an int, or its negative, falls by along a rule, step by step.
use Rattle.std.specs.Prelude.{ℕ, ℤ, pos, negsuc, ◌≡◌, ◌⊎◌, ◌<◌, ◌+ℤ◌, Bool, true, false, List, [], ◌∷◌}
use Rattle.lin_core.specs.declared.rows.RowKind.TheVariants.{AtLeastZero, IsZero}
use Rattle.lin_core.specs.declared.rows.WRow.{WRow}
use Rattle.descent.specs.declared.rules.PathRule.{PathRule}
use Rattle.descent.specs.declared.rules.Place.{Place}
use Rattle.rank_forms.specs.declared.rule_links.links.Link.{Link}
use Rattle.rank_forms.specs.rule_links.Links.{IsAmong, IsWay, total}
use Rattle.rank_forms.specs.rule_links.Positions.{AreEnds}

-- of a link's two variables the one that counts up: where the link starts, or where it leads for the negative of the int
abbrev pub upper : Bool → Link → ℕ
upper true link = link.to
upper false link = link.from

-- of a link's two variables the one that counts down: where the link leads, or where it starts for the negative of the int
abbrev pub lower : Bool → Link → ℕ
lower true link = link.from
lower false link = link.to

-- the row is upper - lower - k and nothing else
pub record SaysFall (negative : Bool) (row : WRow) (link : Link) (by : ℤ) : Type 0 where
  pub terms : (row.terms ≡ (upper negative link, pos 1) ∷ (lower negative link, negsuc 0) ∷ [])
      ⊎ (row.terms ≡ (lower negative link, negsuc 0) ∷ (upper negative link, pos 1) ∷ [])
  pub constant : row.constant +ℤ by ≡ pos 0
  pub weights : row.weights ≡ []

-- an equation says so too where it is taken with -1
pub record SaysBack (negative : Bool) (row : WRow) (link : Link) (by : ℤ) : Type 0 where
  pub equation : row.kind ≡ IsZero
  pub terms : (row.terms ≡ (upper negative link, negsuc 0) ∷ (lower negative link, pos 1) ∷ [])
      ⊎ (row.terms ≡ (lower negative link, pos 1) ∷ (upper negative link, negsuc 0) ∷ [])
  pub constant : row.constant ≡ by
  pub weights : row.weights ≡ []

-- a fall link by k leads to a variable of a greater number, where the form falls by at least k
pub record IsFallLink (negative : Bool) (rows : List WRow) (link : Link) : Type 0 where
  pub row : WRow
  pub among : IsAmong rows row
  pub greater : link.from < link.to
  pub says : SaysFall negative row link link.by ⊎ SaysBack negative row link link.by

-- along a rule the int at a place falls by at least c
pub record StepsDown (negative : Bool) (rule : PathRule) (place : Place) (c : ℤ) : Type 0 where
  pub start : ℕ
  pub finish : ℕ
  pub ends : AreEnds rule false place start finish
  pub links : List Link
  pub way : IsWay (IsFallLink negative rule.rows) start links finish
  pub adds : total links ≡ c

-- the coefficient with which the start of a rule is bounded: 1 for the int, -1 for its negative
abbrev pub sign : Bool → ℤ
sign true = negsuc 0
sign false = pos 1

-- a row of the rule bounds the int at the start: an inequality over this variable alone, from below, or from above for its negative
pub record IsBounded (negative : Bool) (rule : PathRule) (start : ℕ) : Type 0 where
  pub row : WRow
  pub among : IsAmong rule.rows row
  pub inequality : row.kind ≡ AtLeastZero
  pub alone : row.terms ≡ (start, sign negative) ∷ []
