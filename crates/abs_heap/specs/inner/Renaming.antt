-- Words of private calls: how the child of a write is made, which ids get new numbers, what its cells become, and which ids
-- are met.
use Rattle.std.specs.Prelude.{◌≡◌, ◌↔◌, ◌⊎◌, ℕ, ◌==◌, ◌&&◌, ◌||◌, Bool, true, if◌then◌else◌, List, [], ◌∷◌, map, slice_set}
use Rattle.std.specs.Prelude.{Contains, Option, Some, None}
use Rattle.std.specs.Option.{option_map}
use Rattle.jvm_values.specs.declared.shape.Shape.{Shape}
use Rattle.abs_cells.specs.declared.cells.Cell.{Cell}
use Rattle.abs_cells.specs.declared.cells.Cell.TheVariants as cells
use Rattle.abs_cells.specs.AbstractStates.{AbstractState}
use Rattle.abs_cells.specs.Cells.{cell_in, AreEqual, Share}
use Rattle.abs_cells.specs.IdSets.{has_id}
use Rattle.abs_cells.specs.PairLists.{has}
use Rattle.abs_heap.specs.Given.{IsGiven, AreFresh, AreRising}
use Rattle.abs_heap.specs.Names.{name_in, frame_named, IsImage}
use Rattle.abs_heap.specs.Writing.{Write, shape_after, cell_after, GainsPair}

-- the ids of a list of cells that are in a set, in order
abbrev pub ids_among : List ℕ → List (ℕ × Cell) → List ℕ
ids_among set [] = []
ids_among set (c ∷ cells) = if has_id set c.0 then c.0 ∷ ids_among set cells else ids_among set cells

-- the list of one id if it is in a set, and else the empty list
abbrev pub if_in : List ℕ → ℕ → List ℕ
if_in set id = if has_id set id then id ∷ [] else []

-- the ids of a set, rising, each with its new number, which are the least numbers that are free in an abstract state
pub record AreNamesOf (state : AbstractState) (set : List ℕ) (names : List (ℕ × ℕ)) : Type 0 where
  pub old_rise : AreRising (map (λ entry. entry.0) names)
  pub listed : (x : ℕ) → Contains (map (λ entry. entry.0) names) x ↔ (has_id set x ≡ true)
  pub fresh : AreFresh state (map (λ entry. entry.1) names)

-- a number is a pair with some number of a set
pub record IsBeside (pairs : List (ℕ × ℕ)) (set : List ℕ) (n : ℕ) : Type 0 where
  pub from : ℕ
  pub is_in : has_id set from ≡ true
  pub paired : has from n pairs ≡ true

-- a pair is of a number and of some number of a set
abbrev pub is_beside : List ℕ → ℕ → ℕ × ℕ → Bool
is_beside set n p = (has_id set p.1 && (n == p.0)) || (has_id set p.0 && (n == p.1))

-- the id of a cell is in one of two sets, and a number is its new number
abbrev pub is_named : List (ℕ × ℕ) → List ℕ → List ℕ → ℕ → ℕ × Cell → Bool
is_named names first second n c = (has_id first c.0 || has_id second c.0) && (n == name_in names c.0)

-- the ids of an instance's fields where one field is written with an id, or none is
abbrev pub ids_written : Option ℕ → ℕ → List ℕ → List ℕ
ids_written None w ids = ids
ids_written (Some field) w ids = slice_set ids field w

-- the shape of a hazy cell after a write, which changes the shapes of renamed ids alone
abbrev pub shape_if : Bool → Bool → Bool → Shape → Shape
shape_if renamed null no_cycle shape = if renamed then shape_after null no_cycle shape else shape

-- a cell after a write of an id into one of its fields, or into none, with another shape, whose ids are under their new
-- numbers
abbrev pub written_cell : (ℕ → ℕ) → Option ℕ → ℕ → (Shape → Shape) → Cell → Cell
written_cell name field w change (cells.Int interval) = cells.Int interval
written_cell name field w change cells.Null = cells.Null
written_cell name field w change (cells.Obj class ids) = cells.Obj class (map name (ids_written field w ids))
written_cell name field w change (cells.Nums kind len) = cells.Nums kind (name len)
written_cell name field w change (cells.Refs element len shape) = cells.Refs element (name len) (change shape)
written_cell name field w change (cells.Unk bound nullable shape) = cells.Unk bound nullable (change shape)

-- the field that a write sets in the cell of an id, where that is the id of the written object
abbrev pub field_at : Bool → Option ℕ → Option ℕ
field_at here field = if here then field else None

-- the write of an id into a field of an object, or into an item of an array, as one record
abbrev pub write_of : ℕ → Option ℕ → ℕ → Write
write_of object field value = record { object = object; field = field; value = value }

-- a state is the child of a write, where the new numbers of ids, and what the written value does to shapes, are given
abbrev pub IsWritten : AbstractState → Write → List (ℕ × ℕ) → Bool → Bool → AbstractState → Type 0
IsWritten state write names null no_cycle child = IsGiven (map (frame_named (name_in names)) state.frames)
    (option_map (name_in names) state.throwing)
    (cell_in (map (cell_after names (shape_after null no_cycle) write) state.cells))
    (IsImage (name_in names) (AreEqual state))
    (λ a b. IsImage (name_in names) (Share state) a b ⊎ GainsPair state names write a b)
    child
