-- Words of private calls: how a child is made, what cells put among others give, and what pairs put among others do.
use Rattle.std.specs.Prelude.{◌≡◌, ◌↔◌, ◌⊎◌, ℕ, suc, ◌<◌, nat_lt, Bool, true, false, if◌then◌else◌, List, [], ◌∷◌, Option, Some}
use Rattle.std.specs.Prelude.{None, slice_get}
use Rattle.abs_cells.specs.declared.cells.Cell.{Cell}
use Rattle.jvm_values.specs.declared.types.Ty.{Ty}
use Rattle.jvm_values.specs.declared.shape.Shape.{Shape}
use Rattle.abs_cells.specs.Cells.{cell_in, are_compatible, AreEqual, Share}
use Rattle.abs_cells.specs.AbstractStates.{AbstractState}
use Rattle.abs_cells.specs.declared.cells.Cell.TheVariants as cells
use Rattle.abs_cells.specs.PairLists.{has}
use Rattle.abs_cells.specs.Sound.{AreIdsRising}
use Rattle.abs_heap.specs.Given.{IsPair, IsGiven, MayBeOne, first_cell, with_cells}
use Rattle.abs_heap.specs.Writing.{JoinsItem}
use Rattle.abs_heap.specs.Names.{name_in, cell_named}

-- the place of an id in rising cells: how many cells at the front of the list have a lower id
abbrev pub place_in : ℕ → List (ℕ × Cell) → ℕ
place_in id [] = 0
place_in id (c ∷ cells) = if nat_lt c.0 id then suc (place_in id cells) else 0

-- the cell of an id is at a place of a list of cells
abbrev pub IsIdAt : List (ℕ × Cell) → ℕ → ℕ → Type 0
IsIdAt cells place id = (cell : Cell) × (slice_get cells place ≡ Some (id, cell))

-- rising cells give to each id its cell in one list, and its cell in another list where the first has none
pub record IsOver (cells more all : List (ℕ × Cell)) : Type 0 where
  pub rising : AreIdsRising 0 all
  pub is : (id : ℕ) → cell_in all id ≡ first_cell (cell_in cells id) (cell_in more id)

-- an id with its cell, both under the new numbers of ids
abbrev pub named_entry : List (ℕ × ℕ) → ℕ × Cell → ℕ × Cell
named_entry names c = (name_in names c.0, cell_named (name_in names) c.1)

-- a list of pairs gained those of the wanted pairs that may stand by their cells, and no others
abbrev pub Gains : List (ℕ × Cell) → (ℕ → ℕ → Type 0) → List (ℕ × ℕ) → List (ℕ × ℕ) → Type 0
Gains cells wanted old new = (a b : ℕ) → (has a b new ≡ true) ↔ ((has a b old ≡ true) ⊎ IsPair wanted cells a b)

-- two ids are these two, in this order
abbrev pub IsThis : ℕ → ℕ → ℕ → ℕ → Type 0
IsThis a b c d = (c ≡ a) × (d ≡ b)

-- a cell tells no type, or one of more dimensions than a type may have
abbrev pub IsUntold : Option Ty → Type 0
IsUntold told = (t : Ty) → told ≡ Some t → 255 < t.dims

-- two ids with these cells may stand for one object: both have a cell, and the cells are compatible
abbrev pub may_be_one : (Ty → Ty → Bool) → Option Cell → Option Cell → Bool
may_be_one sub None other = false
may_be_one sub (Some cell) None = false
may_be_one sub (Some cell) (Some other) = are_compatible sub cell other

-- a state is the child in which an item of an array is read under an id, without the condition that the id is the least
-- fresh one
abbrev pub IsGivenItem : (Ty → Ty → Bool) → AbstractState → ℕ → Ty → Shape → ℕ → AbstractState → Type 0
IsGivenItem sub state k element shape item child = IsGiven state.frames state.throwing
    (with_cells ((item, cells.Unk element true shape) ∷ []) state)
    (λ a b. AreEqual state a b ⊎ MayBeOne sub (JoinsItem state k item shape) child.cells a b)
    (λ a b. Share state a b ⊎ (JoinsItem state k item shape a b ⊎ ((a ≡ item) × (b ≡ k))))
    child
