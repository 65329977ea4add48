-- What cells are, their types, and which of them may describe one object.
use Rattle.std.specs.Prelude.{◌≡◌, ◌⊎◌, ℕ, ◌<◌, ◌==◌, Bool, true, false, not, ◌&&◌, ◌||◌, if◌then◌else◌, List, [], ◌∷◌, Option, Some, None}
use Rattle.jvm_values.specs.declared.types.Ty.{Ty}
use Rattle.jvm_values.specs.declared.shape.Shape.{Shape}
use Rattle.jvm_values.specs.declared.shape.Shape.TheVariants.{Tree, Dag, Any}
use Rattle.jvm_values.specs.Subtyping.{class_type, array_of, array_of_numbers}
use Rattle.abs_cells.specs.declared.cells.Cell.{Cell}
use Rattle.abs_cells.specs.declared.cells.CellSort.{CellSort}
use Rattle.abs_cells.specs.declared.cells.CellSort.TheVariants as sorts
use Rattle.abs_cells.specs.declared.cells.Cell.TheVariants.{Int, Null, Obj, Nums, Refs, Unk}
use Rattle.abs_cells.specs.AbstractStates.{AbstractState}
use Rattle.abs_cells.specs.PairLists.{has}

-- a cell is known: it tells the object's class, or the kind of an array of numbers, exactly
abbrev pub is_known : Cell → Bool
is_known (Int interval) = false
is_known Null = false
is_known (Obj class ids) = true
is_known (Nums kind len) = true
is_known (Refs element len shape) = false
is_known (Unk bound nullable shape) = false

-- a cell is hazy: of its object only a bound of the type and the shape of the region are told
abbrev pub is_hazy : Cell → Bool
is_hazy (Int interval) = false
is_hazy Null = false
is_hazy (Obj class ids) = false
is_hazy (Nums kind len) = false
is_hazy (Refs element len shape) = true
is_hazy (Unk bound nullable shape) = true

-- a cell stands for an object, or for one that may be null: any cell of a reference but `Null`
abbrev pub is_reference : Cell → Bool
is_reference cell = is_known cell || is_hazy cell

-- a cell is an int's: it tells an interval
abbrev pub is_int : Cell → Bool
is_int (Int interval) = true
is_int Null = false
is_int (Obj class ids) = false
is_int (Nums kind len) = false
is_int (Refs element len shape) = false
is_int (Unk bound nullable shape) = false

-- a cell is `Null`: it stands for null alone
abbrev pub is_null : Cell → Bool
is_null (Int interval) = false
is_null Null = true
is_null (Obj class ids) = false
is_null (Nums kind len) = false
is_null (Refs element len shape) = false
is_null (Unk bound nullable shape) = false

-- a cell may describe null
abbrev pub can_be_null : Cell → Bool
can_be_null (Int interval) = false
can_be_null Null = true
can_be_null (Obj class ids) = false
can_be_null (Nums kind len) = false
can_be_null (Refs element len shape) = false
can_be_null (Unk bound nullable shape) = nullable

-- the ids that a known cell names: those of an instance's fields, or that of the length of an array of numbers
abbrev pub ids_of : Cell → List ℕ
ids_of (Int interval) = []
ids_of Null = []
ids_of (Obj class ids) = ids
ids_of (Nums kind len) = len ∷ []
ids_of (Refs element len shape) = []
ids_of (Unk bound nullable shape) = []

-- the ids that any cell names: those of an instance's fields, or that of an array's length, of an array of references as
-- well
abbrev pub ids_in : Cell → List ℕ
ids_in (Int interval) = []
ids_in Null = []
ids_in (Obj class ids) = ids
ids_in (Nums kind len) = len ∷ []
ids_in (Refs element len shape) = len ∷ []
ids_in (Unk bound nullable shape) = []

-- the type that a cell tells of its object; an int's cell and `Null` tell none
abbrev pub type_of_cell : Cell → Option Ty
type_of_cell (Int interval) = None
type_of_cell Null = None
type_of_cell (Obj class ids) = Some (class_type class)
type_of_cell (Nums kind len) = Some (array_of_numbers kind)
type_of_cell (Refs element len shape) = Some (array_of element)
type_of_cell (Unk bound nullable shape) = Some bound

-- the shape that a hazy cell tells of its region
abbrev pub shape_of : Cell → Option Shape
shape_of (Int interval) = None
shape_of Null = None
shape_of (Obj class ids) = None
shape_of (Nums kind len) = None
shape_of (Refs element len shape) = Some shape
shape_of (Unk bound nullable shape) = Some shape

-- a region may have a cycle, by the shape that its cell tells: a hazy cell alone tells one, and only `Any` allows cycles
abbrev pub may_have_cycle : Option Shape → Bool
may_have_cycle None = false
may_have_cycle (Some Tree) = false
may_have_cycle (Some Dag) = false
may_have_cycle (Some Any) = true

-- a region may be no tree, by the shape that its cell tells: a hazy cell alone tells one, and all but `Tree` allow it
abbrev pub may_be_no_tree : Option Shape → Bool
may_be_no_tree None = false
may_be_no_tree (Some Tree) = false
may_be_no_tree (Some Dag) = true
may_be_no_tree (Some Any) = true

-- a cell is of a sort of cells
abbrev pub sort_test : CellSort → Cell → Bool
sort_test sorts.Any cell = true
sort_test sorts.Reference cell = is_reference cell
sort_test sorts.Known cell = is_known cell
sort_test sorts.Hazy cell = is_hazy cell
sort_test sorts.MayCycle cell = may_have_cycle (shape_of cell)
sort_test sorts.MayBeNoTree cell = may_be_no_tree (shape_of cell)

-- one of two types is below the other
abbrev pub is_comparable : (Ty → Ty → Bool) → Ty → Ty → Bool
is_comparable sub a b = sub a b || sub b a

-- two cells may describe one object, by what they tell: both tell a type, the types are comparable, and the type of one
-- that is known exactly is below the other's
abbrev pub are_compatible_types : (Ty → Ty → Bool) → Bool → Bool → Option Ty → Option Ty → Bool
are_compatible_types sub c_known d_known None d = false
are_compatible_types sub c_known d_known (Some a) None = false
are_compatible_types sub c_known d_known (Some a) (Some b) = is_comparable sub a b
    && ((not c_known || sub a b) && (not d_known || sub b a))

-- two cells may describe one object: their types are comparable, and a known cell's type is below the other's
abbrev pub are_compatible : (Ty → Ty → Bool) → Cell → Cell → Bool
are_compatible sub c d = are_compatible_types sub (is_known c) (is_known d) (type_of_cell c) (type_of_cell d)

-- ---- cells of a state

-- the cell that a list of ids and cells gives to an id, if the id is there
abbrev pub cell_in : List (ℕ × Cell) → ℕ → Option Cell
cell_in [] id = None
cell_in (c ∷ cells) id = if c.0 == id then Some c.1 else cell_in cells id

-- an id has a cell, and the cell passes a test
abbrev pub is_of_sort : (Cell → Bool) → Option Cell → Bool
is_of_sort sort None = false
is_of_sort sort (Some cell) = sort cell

-- the cell of an id in an abstract state, if the id has one
abbrev pub cell_at : AbstractState → ℕ → Option Cell
cell_at state id = cell_in state.cells id

-- an id of an abstract state has a cell that passes a test
pub record HasCell (sort : Cell → Bool) (state : AbstractState) (id : ℕ) : Type 0 where
  pub cell : Cell
  pub is : cell_at state id ≡ Some cell
  pub sort_is : sort cell ≡ true

-- two ids of an abstract state may stand for one object: they are a pair of its equal ids
abbrev pub AreEqual : AbstractState → ℕ → ℕ → Type 0
AreEqual state a b = has a b state.eq ≡ true

-- the regions of two ids of an abstract state may share an object: they are a pair of its sharing ids
abbrev pub Share : AbstractState → ℕ → ℕ → Type 0
Share state a b = has a b state.share ≡ true

-- a number is fresh for a parent state and its child: it is the least one that neither has as an id. Where only one state
-- is concerned, it is given as both
pub record IsFresh (parent child : AbstractState) (n : ℕ) : Type 0 where
  pub free_before : cell_at parent n ≡ None
  pub free : cell_at child n ≡ None
  pub least : (m : ℕ) → m < n → HasCell (λ _. true) parent m ⊎ HasCell (λ _. true) child m
