-- A child of an abstract state, given by its cells and by the ids that are wanted as pairs.
use Rattle.std.specs.Prelude.{◌≡◌, ◌≢◌, ◌↔◌, ◌⊎◌, ℕ, ◌<◌, Bool, true, List, [], ◌∷◌, All, Contains, Option, Some, None}
use Rattle.jvm_values.specs.declared.types.Ty.{Ty}
use Rattle.abs_cells.specs.declared.cells.Cell.{Cell}
use Rattle.abs_cells.specs.AbstractStates.{AbstractFrame, AbstractState}
use Rattle.abs_cells.specs.Cells.{cell_in, cell_at, HasCell, AreEqual, Share, are_compatible}
use Rattle.abs_cells.specs.Sound.{AreIdsRising, may_join}

-- two ids are one of the wanted pairs, and may be a pair by their cells: they differ, both are of references, and not both
-- are known
abbrev pub IsPair : (ℕ → ℕ → Type 0) → List (ℕ × Cell) → ℕ → ℕ → Type 0
IsPair wanted cells a b = (a ≢ b) × ((may_join cells a b ≡ true) × (wanted a b ⊎ wanted b a))

-- an abstract state is given by its parts: it has these frames, this thrown id, these cells, rising, and of the wanted
-- pairs all that may stand by the cells
pub record IsGiven (frames : List AbstractFrame) (throwing : Option ℕ) (cell : ℕ → Option Cell) (equal : ℕ → ℕ → Type 0)
    (sharing : ℕ → ℕ → Type 0) (child : AbstractState) : Type 0 where
  pub frames_are : child.frames ≡ frames
  pub throwing_is : child.throwing ≡ throwing
  pub rising : AreIdsRising 0 child.cells
  pub cells : (id : ℕ) → cell_at child id ≡ cell id
  pub eq : (a b : ℕ) → AreEqual child a b ↔ IsPair equal child.cells a b
  pub share : (a b : ℕ) → Share child a b ↔ IsPair sharing child.cells a b

-- a number is below the first of a list, if there is one
abbrev pub IsBelowFirst : ℕ → List ℕ → Type 0
IsBelowFirst n [] = Unit {0}
IsBelowFirst n (m ∷ rest) = n < m

-- the numbers of a list rise
abbrev pub AreRising : List ℕ → Type 0
AreRising [] = Unit {0}
AreRising (n ∷ rest) = IsBelowFirst n rest × AreRising rest

-- ids are fresh for an abstract state: they rise, and are the least numbers which are no ids of the state
pub record AreFresh (state : AbstractState) (ids : List ℕ) : Type 0 where
  pub rise : AreRising ids
  pub free : All (λ id. cell_at state id ≡ None) ids
  pub least : (id m : ℕ) → Contains ids id → m < id → HasCell (λ _. true) state m ⊎ Contains ids m

-- the first of two cells that is there
abbrev pub first_cell : Option Cell → Option Cell → Option Cell
first_cell None other = other
first_cell (Some cell) other = Some cell

-- the cells of an abstract state with others in their place: the cell that a list gives to an id, or else the state's
abbrev pub with_cells : List (ℕ × Cell) → AbstractState → ℕ → Option Cell
with_cells cells state id = first_cell (cell_in cells id) (cell_at state id)

-- two ids join, as a relation says, and their cells are compatible: of the ids that share in a child these are wanted as
-- pairs that may be one object
pub record MayBeOne (sub : Ty → Ty → Bool) (join : ℕ → ℕ → Type 0) (cells : List (ℕ × Cell)) (a b : ℕ) : Type 0 where
  pub joins : join a b
  pub left : Cell
  pub left_is : cell_in cells a ≡ Some left
  pub right : Cell
  pub right_is : cell_in cells b ≡ Some right
  pub compatible : are_compatible sub left right ≡ true
