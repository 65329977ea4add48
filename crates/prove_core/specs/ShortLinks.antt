-- Links whose equations have small coefficients.
use Rattle.std.specs.Prelude.{◌≡◌, ◌+◌, ◌≤◌, ℕ, ℤ, List, [], ◌∷◌, All, unsigned_abs}
use Rattle.lin_core.specs.declared.rows.RowKind.TheVariants.{IsZero}
use Rattle.term_graph.specs.declared.links.Side.{Side}
use Rattle.term_graph.specs.declared.links.LinkRow.{LinkRow}
use Rattle.term_graph.specs.declared.links.Link.{Link}

-- an equation of three terms has small coefficients: together they are at most 4,096 in size
abbrev pub IsShortRow : LinkRow → Type 0
IsShortRow row = row.kind ≡ IsZero → (a b c : Side × ℕ × ℤ) → row.terms ≡ a ∷ b ∷ c ∷ []
    → unsigned_abs a.2 + (unsigned_abs b.2 + unsigned_abs c.2) ≤ 4096

-- the equations of a link have small coefficients
abbrev pub IsShortLink : Link → Type 0
IsShortLink link = All IsShortRow link.rows

-- the equations of all links have small coefficients
abbrev pub AreShortLinks : List (List Link) → Type 0
AreShortLinks links = All (λ (list : List Link). All IsShortLink list) links
