-- Links: what the rows of a path say of one variable by another. An int link from u to v by k says that v is u + k; what k says in
-- the other kinds stands in SizeLinks and FallLinks.
use Rattle.std.specs.Prelude.{ℕ, ℤ, pos, negsuc, ◌≡◌, ◌⊎◌, ◌+ℤ◌, ◌*ℤ◌, List, [], ◌∷◌, Some, slice_get}
use Rattle.lin_core.specs.declared.rows.RowKind.TheVariants.{AtLeastZero, IsZero}
use Rattle.lin_core.specs.declared.rows.WRow.{WRow}
use Rattle.rank_forms.specs.declared.rule_links.links.Link.{Link}

-- a row is one of the rows
abbrev pub IsAmong : List WRow → WRow → Type 0
IsAmong rows row = (n : ℕ) × (slice_get rows n ≡ Some row)

-- a row that says of one variable alone that so many times it, and a constant, is at least 0
pub record HasBound (rows : List WRow) (variable : ℕ) (times constant : ℤ) : Type 0 where
  pub row : WRow
  pub among : IsAmong rows row
  pub inequality : row.kind ≡ AtLeastZero
  pub terms : row.terms ≡ (variable, times) ∷ []
  pub number : row.constant ≡ constant
  pub weights : row.weights ≡ []

-- the variable is a number: it is neither below nor above it
pub record IsFixed (rows : List WRow) (variable : ℕ) (number : ℤ) : Type 0 where
  pub low : ℤ
  pub least : HasBound rows variable (pos 1) low
  pub opposite : low +ℤ number ≡ pos 0
  pub most : HasBound rows variable (negsuc 0) number

-- the link leads from u to v, where u - v + k = 0, or back
pub record LeadsOn (u v : ℕ × ℤ) (k : ℤ) (link : Link) : Type 0 where
  pub plus : u.1 ≡ pos 1
  pub minus : v.1 ≡ negsuc 0
  pub way : ((link.from ≡ u.0) × (link.to ≡ v.0) × (link.by ≡ k)) ⊎ ((link.from ≡ v.0) × (link.to ≡ u.0) × (link.by +ℤ k ≡ pos 0))

-- two terms that are 0 with a number, of which one has the coefficient 1 and the other one -1
abbrev pub IsTie : ℕ × ℤ → ℕ × ℤ → ℤ → Link → Type 0
IsTie one other k link = LeadsOn one other k link ⊎ LeadsOn other one k link

-- two terms, where the variable of a third one is replaced by its number
pub record IsTieBeside (rows : List WRow) (third one other : ℕ × ℤ) (k : ℤ) (link : Link) : Type 0 where
  pub number : ℤ
  pub fixed : IsFixed rows third.0 number
  pub tie : IsTie one other (k +ℤ third.1 *ℤ number) link

-- two or three terms that are 0 with a number give this link: of two terms a tie, of three terms a tie where one of the variables is fixed
-- at a number
abbrev pub LinksOf : List WRow → List (ℕ × ℤ) → ℤ → Link → Type 0
LinksOf rows (one ∷ other ∷ []) k link = IsTie one other k link
LinksOf rows (a ∷ b ∷ c ∷ []) k link = IsTieBeside rows a b c k link ⊎ (IsTieBeside rows b a c k link ⊎ IsTieBeside rows c a b k link)
LinksOf rows terms k link = ⊥

-- an int link of a path: an equation without weights that ties two variables
pub record IsIntLink (rows : List WRow) (link : Link) : Type 0 where
  pub row : WRow
  pub among : IsAmong rows row
  pub equation : row.kind ≡ IsZero
  pub weightless : row.weights ≡ []
  pub tied : LinksOf rows row.terms row.constant link

-- a link of a kind that begins at a variable
pub record IsStep (links : Link → Type 0) (u : ℕ) (link : Link) : Type 0 where
  pub begins : link.from ≡ u
  pub is : links link

-- from one variable to another one by links of a kind, each beginning where the one before ends
abbrev pub IsWay : (Link → Type 0) → ℕ → List Link → ℕ → Type 0
IsWay links u [] v = u ≡ v
IsWay links u (link ∷ rest) v = IsStep links u link × IsWay links link.to rest v

-- how much the links of a list add together
abbrev pub total : List Link → ℤ
total [] = pos 0
total (link ∷ rest) = link.by +ℤ total rest
