-- A state with some of its ids under other numbers.
use Rattle.std.specs.Prelude.{◌≡◌, ◌⊎◌, ℕ, ◌==◌, if◌then◌else◌, List, [], ◌∷◌, map}
use Rattle.std.specs.Option.{option_map}
use Rattle.abs_cells.specs.declared.cells.Cell.{Cell}
use Rattle.abs_cells.specs.declared.cells.Cell.TheVariants as cells
use Rattle.abs_cells.specs.AbstractStates.{AbstractFrame}

-- the new number of an id where one number stands for another; all others stay
abbrev pub one_name : ℕ → ℕ → ℕ → ℕ
one_name old new id = if id == old then new else id

-- the new number of an id, as a list of old and new numbers says; an id that is not listed stays
abbrev pub name_in : List (ℕ × ℕ) → ℕ → ℕ
name_in [] id = id
name_in (entry ∷ entries) id = if entry.0 == id then entry.1 else name_in entries id

-- an abstract frame with its ids under their new numbers
abbrev pub frame_named : (ℕ → ℕ) → AbstractFrame → AbstractFrame
frame_named name frame = record frame { locals = map (option_map name) frame.locals; stack = map name frame.stack }

-- a cell with the ids that it names under their new numbers
abbrev pub cell_named : (ℕ → ℕ) → Cell → Cell
cell_named name (cells.Int interval) = cells.Int interval
cell_named name cells.Null = cells.Null
cell_named name (cells.Obj class ids) = cells.Obj class (map name ids)
cell_named name (cells.Nums kind len) = cells.Nums kind (name len)
cell_named name (cells.Refs element len shape) = cells.Refs element (name len) shape
cell_named name (cells.Unk bound nullable shape) = cells.Unk bound nullable shape

-- two ids are the new numbers of two others that are related
pub record IsImage (name : ℕ → ℕ) (pairs : ℕ → ℕ → Type 0) (a b : ℕ) : Type 0 where
  pub x : ℕ
  pub y : ℕ
  pub were : pairs x y
  pub left : name x ≡ a
  pub right : name y ≡ b

-- two numbers are these two, in any order
abbrev pub IsPairOf : ℕ → ℕ → ℕ → ℕ → Type 0
IsPairOf x y a b = ((a ≡ x) × (b ≡ y)) ⊎ ((a ≡ y) × (b ≡ x))
