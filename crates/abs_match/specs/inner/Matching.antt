-- Words for the calls that look for the first clause that fails.
use Rattle.std.specs.Prelude.{◌≡◌, ◌≢◌, ℕ, ◌<◌, nat_lt, if◌then◌else◌, Bool, true, false, ◌&&◌, ◌||◌, not, ◌==◌, int_le, List, map}
use Rattle.std.specs.Prelude.{reverse, Option, Some, None, slice_get}
use Rattle.std.specs.Option.{option_and_then, option_map}
use Rattle.abs_cells.specs.lin_core.Intervals.{Bounds}
use Rattle.jvm_values.specs.declared.types.Kind.{Kind}
use Rattle.jvm_values.specs.declared.types.Kind.TheVariants as kinds
use Rattle.jvm_values.specs.declared.types.Ty.{Ty}
use Rattle.abs_cells.specs.declared.cells.Cell.{Cell}
use Rattle.abs_cells.specs.declared.cells.Cell.TheVariants.{Int, Null, Obj, Nums, Refs, Unk}
use Rattle.abs_cells.specs.AbstractStates.{AbstractFrame, AbstractState}
use Rattle.jvm_values.specs.declared.shape.Shape.{Shape}
use Rattle.abs_cells.specs.PairLists.{has}
use Rattle.abs_cells.specs.Cells.{is_known, is_hazy, cell_in, cell_at, is_of_sort, shape_of, type_of_cell, HasCell, AreEqual}
use Rattle.abs_cells.specs.Cells.{is_null, can_be_null}
use Rattle.abs_cells.specs.Sound.{IsWellFormed}
use Rattle.abs_reach.specs.Instances.{image_in, ListsIds, is_no_int, AreMapped, MayBeOne, HasIdShape, HoldsClause, FailsAt, Clause}
use Rattle.abs_reach.specs.Instances.{cells, aliases, sharing, shapes}
use Rattle.abs_match.specs.declared.clauses.IdClause.{IdClause}
use Rattle.abs_match.specs.declared.clauses.IdClause.TheVariants.{Cells, Aliases, Sharing, Shapes}
use Rattle.abs_match.specs.declared.clauses.OtherSort.{OtherSort}
use Rattle.abs_match.specs.declared.clauses.OtherSort.TheVariants.{NoInt, Known, Hazy}

-- the clause that is asked of each id
abbrev pub clause_of : IdClause → Clause
clause_of Cells = cells
clause_of Aliases = aliases
clause_of Sharing = sharing
clause_of Shapes = shapes

-- the least number of which something does not hold, if there is one
abbrev pub IsLeastOf : (ℕ → Type 0) → Option ℕ → Type 0
IsLeastOf meets None = (id : ℕ) → meets id
IsLeastOf meets (Some id) = (meets id → ⊥) × ((lower : ℕ) → lower < id → meets lower)

-- the lower of two numbers, either of which may not be there
abbrev pub lower_of : Option ℕ → Option ℕ → Option ℕ
lower_of None b = b
lower_of (Some a) None = Some a
lower_of (Some a) (Some b) = if nat_lt a b then Some a else Some b

-- what is found is an id's image
abbrev pub HasImage : List (ℕ × ℕ) → ℕ → Option ℕ → Type 0
HasImage entries id found = (image : ℕ) × ((image_in entries id ≡ Some image) × (found ≡ Some image))

-- wherever the one list of places has an id, the other has its image
abbrev pub PlacesMeet : List (ℕ × ℕ) → (ℕ → Option ℕ) → (ℕ → Option ℕ) → ℕ → Type 0
PlacesMeet entries theirs ours id = (n : ℕ) → theirs n ≡ Some id → HasImage entries id (ours n)

-- the id of a local, if it has one
abbrev pub local_at : List (Option ℕ) → ℕ → Option ℕ
local_at locals n = option_and_then (λ id. id) (slice_get locals n)

-- a frame's places: its locals, and its stack's entries from the bottom
abbrev pub FrameMeets : List (ℕ × ℕ) → AbstractFrame → AbstractFrame → ℕ → Type 0
FrameMeets entries target frame id = PlacesMeet entries (local_at target.locals) (local_at frame.locals) id
    × PlacesMeet entries (slice_get (reverse target.stack)) (slice_get (reverse frame.stack)) id

-- what the two frames of one number ask of an id
abbrev pub FramesMeet : List (ℕ × ℕ) → List AbstractFrame → List AbstractFrame → ℕ → ℕ → Type 0
FramesMeet entries targets frames f id = (target frame : AbstractFrame) → slice_get targets f ≡ Some target
    → slice_get frames f ≡ Some frame → FrameMeets entries target frame id

-- what a map's entry of one number asks of an id: the image of this id has a cell
abbrev pub EntryMeets : List (ℕ × Cell) → List (ℕ × ℕ) → ℕ → ℕ → Type 0
EntryMeets given entries n id = (entry : ℕ × ℕ) → slice_get entries n ≡ Some entry → entry.0 ≡ id
    → is_of_sort (λ _. true) (cell_in given entry.1) ≡ true

-- what the cell of one number asks of its id
abbrev pub CellMeets : (ℕ → Type 0) → List (ℕ × Cell) → ℕ → ℕ → Type 0
CellMeets meets given n id = (c : ℕ × Cell) → slice_get given n ≡ Some c → c.0 ≡ id → meets id

-- what the first of numbered items ask of an id
abbrev pub FirstMeet : (ℕ → ℕ → Type 0) → ℕ → ℕ → Type 0
FirstMeet asks count id = (n : ℕ) → n < count → asks n id

-- the first items of two lists have the same values
abbrev pub FirstSame : {A B X : Type 0} → (A → X) → (B → X) → List A → List B → ℕ → Type 0
FirstSame f g xs ys count = (n : ℕ) → n < count → option_map f (slice_get xs n) ≡ option_map g (slice_get ys n)

-- ---- cells, as tests

-- an id's image is this one
abbrev pub image_is : Option ℕ → ℕ → Bool
image_is None image = false
image_is (Some found) image = found == image

-- a cell is an int whose interval lies in the outer one
abbrev pub over_int : Bounds → Cell → Bool
over_int outer (Int inner) = int_le outer.lo inner.lo && int_le inner.hi outer.hi
over_int outer Null = false
over_int outer (Obj class ids) = false
over_int outer (Nums kind len) = false
over_int outer (Refs element len shape) = false
over_int outer (Unk bound nullable shape) = false

-- there is a type, and it is below a bound
abbrev pub is_type_below : (Ty → Ty → Bool) → Ty → Option Ty → Bool
is_type_below sub bound None = false
is_type_below sub bound (Some t) = sub t bound

-- a cell is one of the objects below a bound, or is null where null is allowed
abbrev pub over_unknown : (Ty → Ty → Bool) → Ty → Bool → Cell → Bool
over_unknown sub bound nullable cell = (not (can_be_null cell) || nullable)
    && (is_null cell || is_type_below sub bound (type_of_cell cell))

-- ---- pairs, as sets of images

-- the cells of which an id's partners may be
abbrev pub is_wanted : OtherSort → Cell → Bool
is_wanted NoInt cell = is_no_int cell
is_wanted Known cell = is_known cell
is_wanted Hazy cell = is_hazy cell

-- a cell is of a sort, its id is not the one given, and the two are no pair
abbrev pub is_other : OtherSort → ℕ → List (ℕ × ℕ) → ℕ × Cell → Bool
is_other sort id pairs c = is_wanted sort c.1 && (not (c.0 == id) && not (has id c.0 pairs))

-- the cell of a number is of such another id, and the entry of that number has this image
pub record IsApartAt (given : List (ℕ × Cell)) (entries pairs : List (ℕ × ℕ)) (sort : OtherSort) (id n image : ℕ) : Type 0 where
  pub c : ℕ × Cell
  pub at : slice_get given n ≡ Some c
  pub entry : ℕ × ℕ
  pub entry_at : slice_get entries n ≡ Some entry
  pub other : is_other sort id pairs c ≡ true
  pub maps : entry.1 ≡ image

-- a number is the image of another id, of a sort, that is no pair with the one given
pub record IsApartImage (given : List (ℕ × Cell)) (entries pairs : List (ℕ × ℕ)) (sort : Cell → Bool) (id image : ℕ) : Type 0 where
  pub y : ℕ
  pub cell : Cell
  pub is : cell_in given y ≡ Some cell
  pub sort_is : sort cell ≡ true
  pub differ : id ≢ y
  pub free : has id y pairs ≡ false
  pub maps : image_in entries y ≡ Some image

-- each image of an entry has a cell
abbrev pub AllMapped : AbstractState → List (ℕ × ℕ) → Type 0
AllMapped state entries = (id image : ℕ) → image_in entries id ≡ Some image → HasCell (λ _. true) state image

-- what the clause on pairs with one object asks of an id: ids whose images may be one object are a pair with one object
abbrev pub PairsEnough : AbstractState → AbstractState → List (ℕ × ℕ) → ℕ → Type 0
PairsEnough state target entries id = (other image other_image : ℕ)
    → AreMapped target entries is_no_int is_no_int id other image other_image → MayBeOne state image other_image → AreEqual target id other

-- what the clause on shapes asks of an id: the closure of its image has the shape that its cell tells
abbrev pub IsShaped : AbstractState → AbstractState → List (ℕ × ℕ) → ℕ → Type 0
IsShaped state target entries id = (cell : Cell) (shape : Shape) (image : ℕ) → cell_at target id ≡ Some cell
    → shape_of cell ≡ Some shape → image_in entries id ≡ Some image → HasIdShape shape state image

-- what is known once the map was tested
pub record AreMatched (state target : AbstractState) (entries : List (ℕ × ℕ)) : Type 0 where
  pub good : IsWellFormed state
  pub lists : ListsIds target entries
  pub mapped : AllMapped state entries

-- what a test of one clause answers: nothing where it holds, else the id that is named
abbrev pub Tested : (Ty → Ty → Bool) → AbstractState → AbstractState → List (ℕ × ℕ) → Clause → Option ℕ → Type 0
Tested sub state target entries clause None = HoldsClause sub state target entries clause
Tested sub state target entries clause (Some id) = FailsAt sub state target entries clause id
