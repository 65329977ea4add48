-- Splits of a state into cases, by what an object is: each case is a child of zero steps. For heaps of trees these are the
-- refinements of Otto, Brockschmidt, von Essen, Giesl 2010, "Automated Termination Analysis of Java Bytecode by Term
-- Rewriting"; shapes and the pairs of ids are this project's own.
use Rattle.std.specs.Prelude.{◌≡◌, ◌≢◌, ◌⊎◌, ℕ, ◌==◌, nat_lt, Bool, true, false, ◌&&◌, ◌||◌, if◌then◌else◌, List, [], ◌∷◌, ◌++◌}
use Rattle.std.specs.Prelude.{map, filter, zip, length, Option, Some, None, slice_get, pos}
use Rattle.std.specs.Option.{option_map}
use Rattle.list_views.specs.Lists.{numbers_from}
use Rattle.jvm_values.specs.declared.types.Ty.{Ty}
use Rattle.jvm_values.specs.declared.types.Kind.{Kind}
use Rattle.jvm_values.specs.declared.types.Kind.TheVariants as kinds
use Rattle.jvm_values.specs.declared.types.Slot.{Slot}
use Rattle.jvm_values.specs.declared.types.Slot.TheVariants as slots
use Rattle.jvm_values.specs.declared.shape.Shape.{Shape}
use Rattle.jvm_values.specs.declared.shape.Shape.TheVariants.{Tree, Dag, Any}
use Rattle.jvm_values.specs.Kinds.{least_of, greatest_of}
use Rattle.jvm_values.specs.Joins.{item_of}
use Rattle.jvm_values.specs.Subtyping.{class_type, object_type, array_of_numbers}
use Rattle.jvm_values.specs.TypedHeaps.{WorldTypes}
use Rattle.abs_cells.specs.declared.cells.Cell.{Cell}
use Rattle.abs_cells.specs.declared.cells.Cell.TheVariants as cells
use Rattle.abs_cells.specs.AbstractStates.{AbstractState}
use Rattle.abs_cells.specs.Cells.{is_comparable, are_compatible, type_of_cell, shape_of, cell_in, cell_at, AreEqual, Share}
use Rattle.abs_heap.specs.Given.{IsGiven, AreFresh, with_cells, MayBeOne}
use Rattle.abs_heap.specs.Names.{one_name, frame_named, cell_named, IsImage, IsPairOf}

-- ---- null, or not

-- a child is a state with another cell at an id, and with those of the state's pairs that still may stand
abbrev pub IsWithCell : AbstractState → ℕ → Cell → AbstractState → Type 0
IsWithCell state x cell child = IsGiven state.frames state.throwing (with_cells ((x, cell) ∷ []) state) (AreEqual state)
    (Share state) child

-- ---- a class, or an array

-- the lower of two types of which one is below the other
abbrev pub lower_of : (Ty → Ty → Bool) → Ty → Ty → Ty
lower_of sub a b = if sub a b then a else b

-- the cell of a field's fresh id, of an object of a hazy region: any int of the field's kind, or any object below the
-- field's erased type, or null, with the region's shape
abbrev pub cell_of_slot : (Ty → Ty) → Shape → Slot → Cell
cell_of_slot erase shape (slots.Num kind) = cells.Int (record { lo = least_of kind; hi = greatest_of kind })
cell_of_slot erase shape (slots.Ref t) = cells.Unk (erase t) true shape

-- the cell of an array's fresh length: an int that is not negative
abbrev pub length_cell : Cell
length_cell = cells.Int (record { lo = pos 0; hi = pos 2147483647 })

-- an id stands for a field of a reference type among the ids of an instance's fields
pub record IsReferenceField (fields : List Slot) (ids : List ℕ) (f : ℕ) : Type 0 where
  pub place : ℕ
  pub t : Ty
  pub slot_is : slice_get fields place ≡ Some (slots.Ref t)
  pub id_is : slice_get ids place ≡ Some f

-- what the id of a reference field of x joins, where x is a hazy id that gets to be a known instance: each id that shares
-- with x; under a shape that is no tree the ids of the other fields; and under a shape with cycles x itself
pub record JoinsFields (fields : List Slot) (ids : List ℕ) (state : AbstractState) (x : ℕ) (shape : Shape) (f y : ℕ) : Type 0 where
  pub is_field : IsReferenceField fields ids f
  pub why : Share state x y ⊎ (((shape ≢ Tree) × IsReferenceField fields ids y) ⊎ ((shape ≡ Any) × (y ≡ x)))

-- a child in which x is a known instance of a class, with fresh ids for its fields, which join what they may share with
pub record IsInstanceChild (types : WorldTypes) (state : AbstractState) (x : ℕ) (shape : Shape) (class : ℕ)
    (child : AbstractState) : Type 0 where
  pub ids : List ℕ
  pub count : length ids ≡ length (types.fields class)
  pub fresh : AreFresh state ids
  pub is : IsGiven state.frames state.throwing
      (with_cells ((x, cells.Obj class ids) ∷ zip ids (map (cell_of_slot types.erase shape) (types.fields class))) state)
      (λ a b. AreEqual state a b ⊎ MayBeOne types.sub (JoinsFields (types.fields class) ids state x shape) child.cells a b)
      (λ a b. Share state a b ⊎ JoinsFields (types.fields class) ids state x shape a b)
      child

-- a child in which x is an array with a fresh id for its length
pub record IsArrayChild (state : AbstractState) (x : ℕ) (cell : ℕ → Cell) (child : AbstractState) : Type 0 where
  pub len : ℕ
  pub fresh : AreFresh state (len ∷ [])
  pub is : IsGiven state.frames state.throwing (with_cells ((x, cell len) ∷ (len, length_cell) ∷ []) state) (AreEqual state)
      (Share state) child

-- what the object of an id may be: an instance of a class, an array of numbers of a kind, or an array of references of an
-- element type
pub data Case : Type 0 where
  instance : ℕ → Case
  numbers : Kind → Case
  references : Ty → Case

-- a child is that of a case of x
abbrev pub IsCase : WorldTypes → AbstractState → ℕ → Shape → Case → AbstractState → Type 0
IsCase types state x shape (instance class) child = IsInstanceChild types state x shape class child
IsCase types state x shape (numbers kind) child = IsArrayChild state x (λ len. cells.Nums kind len) child
IsCase types state x shape (references element) child = IsArrayChild state x (λ len. cells.Refs element len shape) child

-- the cases of the classes below a type of which there are instances, by number
abbrev pub instances_below : WorldTypes → Ty → List Case
instances_below types bound = map instance (filter (λ class. types.can_be_made class && types.sub (class_type class) bound)
    (numbers_from 0 types.classes))

-- the cases of the arrays of numbers below a type, by the order of kinds: all of them are below Object
abbrev pub numbers_below : WorldTypes → Ty → List Case
numbers_below types bound = map numbers
    (filter (λ kind. types.sub (array_of_numbers kind) bound) (kinds.Boolean ∷ kinds.Char ∷ kinds.Byte ∷ kinds.Short ∷ kinds.Int ∷ []))

-- the element type above those of all arrays of references below a type, if there are any: below Object all are arrays of
-- Object
abbrev pub element_below : WorldTypes → Ty → Option Ty
element_below types bound = if types.sub object_type bound then Some object_type else item_of bound

-- the case of arrays of references with an element type, if there is one
abbrev pub listed : Option Ty → List Case
listed None = []
listed (Some element) = references element ∷ []

-- what an object of a type may be, in order: the classes by number, the arrays of numbers, the arrays of references
abbrev pub cases_below : WorldTypes → Ty → List Case
cases_below types bound = instances_below types bound ++ (numbers_below types bound ++ listed (element_below types bound))

-- what an object below a bound may be where it is wanted to be of a type: all that the lower of the two allows, and nothing
-- if they are not comparable
abbrev pub cases_of : WorldTypes → Ty → Ty → List Case
cases_of types bound wanted = if is_comparable types.sub bound wanted then cases_below types (lower_of types.sub bound wanted) else []

-- ---- two ids that may be one object

-- the rank by which one of two merged ids stays: a known id comes before an array of references, and that one before an
-- object of a bound
abbrev pub rank_of : Cell → ℕ
rank_of (cells.Int interval) = 3
rank_of cells.Null = 3
rank_of (cells.Obj class ids) = 0
rank_of (cells.Nums kind len) = 0
rank_of (cells.Refs element len shape) = 1
rank_of (cells.Unk bound nullable shape) = 2

-- the first of two ids stays when they are merged: it has the lower rank, or the same rank and the lower number
abbrev pub stays_before : ℕ → ℕ → ℕ → ℕ → Bool
stays_before rank id other_rank other = nat_lt rank other_rank || ((rank == other_rank) && nat_lt id other)

-- of two ids of an abstract state one stays, and the other goes, when they are merged
pub record Stays (state : AbstractState) (stays goes : ℕ) : Type 0 where
  pub left : Cell
  pub left_is : cell_at state stays ≡ Some left
  pub right : Cell
  pub right_is : cell_at state goes ≡ Some right
  pub before : stays_before (rank_of left) stays (rank_of right) goes ≡ true

-- the better of two shapes that both hold of one region: a tree before a region without cycles, and that before any
abbrev pub better : Shape → Shape → Shape
better Tree other = Tree
better Dag Tree = Tree
better Dag Dag = Dag
better Dag Any = Dag
better Any other = other

-- the better of a shape and of one that another cell may tell
abbrev pub better_of : Shape → Option Shape → Shape
better_of shape None = shape
better_of shape (Some other) = better shape other

-- the element type that a cell tells of an array of references: its own, or that of the array type that is its bound
abbrev pub element_told : Cell → Option Ty
element_told (cells.Int interval) = None
element_told cells.Null = None
element_told (cells.Obj class ids) = None
element_told (cells.Nums kind len) = None
element_told (cells.Refs element len shape) = Some element
element_told (cells.Unk bound nullable shape) = item_of bound

-- the lower of two element types: the second one if it is there and below the first, and else the first
abbrev pub lower_element : (Ty → Ty → Bool) → Ty → Option Ty → Ty
lower_element sub element None = element
lower_element sub element (Some other) = if sub other element then other else element

-- the lower of two bounds: the first one if there is no second or if it is below the second, and else the second
abbrev pub lower_bound : (Ty → Ty → Bool) → Ty → Option Ty → Ty
lower_bound sub bound None = bound
lower_bound sub bound (Some other) = if sub bound other then bound else other

-- the cell of the id that stays when two are merged: a known cell as it is; else with the lower type and the better shape
-- of both, and not null
abbrev pub merged_cell : (Ty → Ty → Bool) → Cell → Cell → Cell
merged_cell sub (cells.Int interval) goes = cells.Int interval
merged_cell sub cells.Null goes = cells.Null
merged_cell sub (cells.Obj class ids) goes = cells.Obj class ids
merged_cell sub (cells.Nums kind len) goes = cells.Nums kind len
merged_cell sub (cells.Refs element len shape) goes = cells.Refs (lower_element sub element (element_told goes)) len
    (better_of shape (shape_of goes))
merged_cell sub (cells.Unk bound nullable shape) goes = cells.Unk (lower_bound sub bound (type_of_cell goes)) false
    (better_of shape (shape_of goes))

-- a child in which two ids are one object: it is the state with the id that goes under the number of the one that stays,
-- which has the merged cell and the pairs of both
pub record IsMergedChild (sub : Ty → Ty → Bool) (state : AbstractState) (stays goes : ℕ) (child : AbstractState) : Type 0 where
  pub left : Cell
  pub left_is : cell_at state stays ≡ Some left
  pub right : Cell
  pub right_is : cell_at state goes ≡ Some right
  pub is : IsGiven (map (frame_named (one_name goes stays)) state.frames) (option_map (one_name goes stays) state.throwing)
      (λ id. if id == goes then None else option_map (cell_named (one_name goes stays))
      (cell_in ((stays, merged_cell sub left right) ∷ state.cells) id))
      (λ a b. IsImage (one_name goes stays) (AreEqual state) a b)
      (λ a b. IsImage (one_name goes stays) (Share state) a b)
      child

-- a child in which two ids are not one object: they are no longer a pair that may be one, and share as before
abbrev pub IsApartChild : AbstractState → ℕ → ℕ → AbstractState → Type 0
IsApartChild state x y child = IsGiven state.frames state.throwing (cell_at state)
    (λ a b. AreEqual state a b × (IsPairOf x y a b → ⊥)) (Share state) child

-- the children of a split of two ids that may be one object, each with the id that goes and the one that stays, if it
-- merges them: both children where the cells are compatible, else the child in which they are two objects alone
pub data IsEqualChild (sub : Ty → Ty → Bool) (state : AbstractState) (x y : ℕ) : Bool → List (Option (ℕ × ℕ) × AbstractState)
    → Type 0 where
  both : (stays goes : ℕ) (merged apart : AbstractState) → IsPairOf x y stays goes → Stays state stays goes
      → IsMergedChild sub state stays goes merged → IsApartChild state x y apart
      → IsEqualChild sub state x y true ((Some (goes, stays), merged) ∷ (None, apart) ∷ [])
  alone : (apart : AbstractState) → IsApartChild state x y apart → IsEqualChild sub state x y false ((None, apart) ∷ [])

-- the children of a split of two ids of an abstract state that may be one object, by whether their cells are compatible
pub record AreEqualChildren (sub : Ty → Ty → Bool) (state : AbstractState) (x y : ℕ)
    (children : List (Option (ℕ × ℕ) × AbstractState)) : Type 0 where
  pub left : Cell
  pub left_is : cell_at state x ≡ Some left
  pub right : Cell
  pub right_is : cell_at state y ≡ Some right
  pub are : IsEqualChild sub state x y (are_compatible sub left right) children
