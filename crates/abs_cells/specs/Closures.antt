-- What known cells lead to, and the four tests that are made over it.
use Rattle.std.specs.Prelude.{◌≡◌, ◌≢◌, ℕ, if◌then◌else◌, ◌⊎◌, Option, Some, None, slice_get}
use Rattle.std.specs.Option.{option_and_then}
use Rattle.jvm_values.specs.declared.shape.Shape.{Shape}
use Rattle.jvm_values.specs.declared.shape.Shape.TheVariants.{Tree, Any}
use Rattle.jvm_values.specs.Paths.{Steps, Reaches, IsTreeFrom, IsDagFrom}
use Rattle.abs_cells.specs.declared.cells.Cell.{Cell}
use Rattle.abs_cells.specs.AbstractStates.{AbstractState}
use Rattle.abs_cells.specs.Cells.{is_reference, is_hazy, ids_of, shape_of, cell_at, HasCell, Share}

-- the steps of a walk over the ids of an abstract state: from a known cell to each id that it names, by the id's place
abbrev pub cell_steps : AbstractState → Steps
cell_steps state a i = option_and_then (λ cell. slice_get (ids_of cell) i) (cell_at state a)

-- an id is in the closure of another one, x: it is x itself, or known cells lead to it from x
abbrev pub KnownFrom : AbstractState → ℕ → ℕ → Type 0
KnownFrom state x y = Reaches (cell_steps state) x y

-- an id itself, if its cell is a reference's and not `Null`
abbrev pub counted : AbstractState → ℕ → Option ℕ
counted state id = option_and_then (λ cell. if is_reference cell then Some id else None) (cell_at state id)

-- the steps of a walk over known cells that lead to ids of references alone, and to none whose cell is `Null`
abbrev pub counted_steps : AbstractState → Steps
counted_steps state a i = option_and_then (counted state) (cell_steps state a i)

-- the regions of two ids may meet: in their closures are ids of references that are one id, or that share
pub record MayMeet (state : AbstractState) (x y : ℕ) : Type 0 where
  pub p : ℕ
  pub q : ℕ
  pub from_x : KnownFrom state x p
  pub from_y : KnownFrom state y q
  pub p_counts : HasCell is_reference state p
  pub q_counts : HasCell is_reference state q
  pub meet : (p ≡ q) ⊎ Share state p q

-- an id shares with a hazy id of the closure of x
pub record SharesThere (state : AbstractState) (k x : ℕ) : Type 0 where
  pub q : ℕ
  pub from_x : KnownFrom state x q
  pub hazy : HasCell is_hazy state q
  pub share : Share state k q

-- the object of an id may lie in the region of x: the id is of a reference, and it is in the closure of x or shares with a
-- hazy id there
pub record MayBeIn (state : AbstractState) (k x : ℕ) : Type 0 where
  pub counts : HasCell is_reference state k
  pub there : KnownFrom state x k ⊎ SharesThere state k x

-- the region of an id is told to have no cycle: the known cells of its closure make none, and no hazy id there has the
-- shape `Any`
pub record IsFiniteId (state : AbstractState) (x : ℕ) : Type 0 where
  pub acyclic : IsDagFrom (counted_steps state) x
  pub hazy : (q : ℕ) (cell : Cell) → KnownFrom state x q → cell_at state q ≡ Some cell → shape_of cell ≢ Some Any

-- the region of an id is told to be a tree: known cells lead to each id of its closure along one path, each hazy id there
-- has the shape `Tree`, and no two ids there share
pub record IsTreeId (state : AbstractState) (x : ℕ) : Type 0 where
  pub one_path : IsTreeFrom (counted_steps state) x
  pub hazy : (q : ℕ) (cell : Cell) (shape : Shape) → KnownFrom state x q → cell_at state q ≡ Some cell → shape_of cell ≡ Some shape
      → shape ≡ Tree
  pub apart : (p q : ℕ) → KnownFrom state x p → KnownFrom state x q → p ≢ q → Share state p q → ⊥
