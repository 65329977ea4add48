-- Words of private calls: steps over cells, and what a walk along them finds.
use Rattle.std.specs.Prelude.{◌≡◌, ℕ, List, Option, Some, None, true, slice_get, if◌then◌else◌}
use Rattle.std.specs.Option.{option_and_then}
use Rattle.jvm_values.specs.Paths.{Steps, Reaches}
use Rattle.abs_cells.specs.declared.cells.Cell.{Cell}
use Rattle.abs_cells.specs.IdSets.{has_id}
use Rattle.abs_cells.specs.Cells.{is_reference, ids_of, ids_in, is_of_sort, cell_in}
use Rattle.abs_reach.specs.declared.find.Names.{Names}
use Rattle.abs_reach.specs.declared.find.Names.TheVariants.{Known, All}

-- the ids of a cell to which a walk goes on: those that known cells name, or those that any cell names
abbrev pub names_by : Names → Cell → List ℕ
names_by Known cell = ids_of cell
names_by All cell = ids_in cell

-- the steps of a walk over a list of cells: from a cell to each of the ids to which the walk goes on
abbrev pub steps_in : Names → List (ℕ × Cell) → Steps
steps_in names cells a i = option_and_then (λ cell. slice_get (names_by names cell) i) (cell_in cells a)

-- an id itself, if its cell in a list is a reference's and not `Null`
abbrev pub counted_in : List (ℕ × Cell) → ℕ → Option ℕ
counted_in cells id = option_and_then (λ cell. if is_reference cell then Some id else None) (cell_in cells id)

-- the steps of a walk over a list of cells that lead to ids of references alone, and to none whose cell is `Null`
abbrev pub counted_steps_in : Names → List (ℕ × Cell) → Steps
counted_steps_in names cells a i = option_and_then (counted_in cells) (steps_in names cells a i)

-- each id to which a step leads has a cell in the list
abbrev pub AreNamedThere : Names → List (ℕ × Cell) → Type 0
AreNamedThere names cells = (a i c : ℕ) → steps_in names cells a i ≡ Some c → is_of_sort (λ _. true) (cell_in cells c) ≡ true

-- a number is in a set
abbrev pub IsIn : List ℕ → ℕ → Type 0
IsIn set n = has_id set n ≡ true

-- steps lead to a place from some number of a set
pub record IsReachedFrom (steps : Steps) (start : List ℕ) (b : ℕ) : Type 0 where
  pub from : ℕ
  pub starts : IsIn start from
  pub reaches : Reaches steps from b

-- the steps of a walk over a list of cells lead to a place from some number of a set that has a cell
pub record IsReachedInside (names : Names) (cells : List (ℕ × Cell)) (start : List ℕ) (b : ℕ) : Type 0 where
  pub from : ℕ
  pub starts : IsIn start from
  pub there : is_of_sort (λ _. true) (cell_in cells from) ≡ true
  pub reaches : Reaches (steps_in names cells) from b
