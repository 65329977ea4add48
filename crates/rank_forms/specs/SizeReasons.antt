-- Reasons of sizes: why a size falls along a rule.
use Rattle.std.specs.Prelude.{ℕ, pos, ◌≡◌, true, List, [], ◌∷◌, Option, Some, None, get_or, length}
use Rattle.std.specs.List.{All}
use Rattle.lin_core.specs.declared.rows.WRow.{WRow}
use Rattle.descent.specs.declared.rules.PathRule.{PathRule}
use Rattle.descent.specs.declared.rules.Place.{Place}
use Rattle.rank_forms.specs.declared.following.Followed.{Followed}
use Rattle.rank_forms.specs.declared.rule_links.links.Come.{Come}
use Rattle.rank_forms.specs.declared.rule_links.links.Link.{Link}
use Rattle.rank_forms.specs.declared.rule_links.links.Tie.{Tie}
use Rattle.rank_forms.specs.declared.reasons.Reasons.{Reasons}
use Rattle.rank_forms.specs.rule_links.SizeLinks.{IsSizeLink}
use Rattle.rank_forms.specs.rule_links.Positions.{AreEnds}
use Rattle.rank_forms.specs.Reasons.{followed_of, size_entries}
use Rattle.rank_forms.specs.rule_links.Falls.{AreRising, IsLongest, IsSizeTie, zero_from}
use Rattle.rank_forms.specs.rule_links.Ties.{InTies, Known, trail_from}

-- the reasons why a size falls: the rows of the ties from its start to its end, and the row that says the start is at least 0
abbrev pub size_made : List WRow → Come → ℕ → Known → ℕ → Reasons
size_made rows come row known finish = record {
  falls = come.by;
  fall = size_entries rows (trail_from (length known) known finish);
  base = pos 0;
  bound = (row, pos 1) ∷ [];
}

-- the reasons why a size falls, where its end is known from its start and a row says that the start is at least 0
abbrev pub size_reasons_by : List WRow → Option Come → Option ℕ → Known → ℕ → Option Reasons
size_reasons_by rows None row known finish = None
size_reasons_by rows (Some come) None known finish = None
size_reasons_by rows (Some come) (Some row) known finish = Some (size_made rows come row known finish)

-- ties of a path's sizes: they lead to greater numbers, give all size links, and each has its row
pub record AreSizeTies (rows : List WRow) (ties : List Tie) : Type 0 where
  pub rising : AreRising ties
  pub complete : (link : Link) → IsSizeLink rows link → InTies ties link
  pub in_rows : All (IsSizeTie rows) ties

-- what is found of a size, by its variables at the start and at the end: the reasons by ties that add up to most
abbrev pub TellsSizeReasons : List WRow → ℕ → ℕ → Option Reasons → Type 0
TellsSizeReasons rows start finish found = (ties : List Tie) × (known : Known) × AreSizeTies rows ties × IsLongest ties start known
    × (found ≡ size_reasons_by rows (get_or known finish None) (zero_from start 0 rows) known finish)

-- what is followed of the size at a place along a rule, where one variable stands alone at each end; nothing where none does at one of
-- them
abbrev pub TellsSizeAt : Place → PathRule → Option Followed → Type 0
TellsSizeAt place rule found = ((start finish : ℕ) → AreEnds rule true place start finish → (reasons : Option Reasons)
    × TellsSizeReasons rule.rows start finish reasons × (found ≡ followed_of (length rule.rows) reasons))
    × (((start finish : ℕ) → AreEnds rule true place start finish → ⊥) → found ≡ None)
