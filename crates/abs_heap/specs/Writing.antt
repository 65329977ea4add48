-- What a write of a reference into an object does to a state, and the three other calls that make ids.
use Rattle.std.specs.Prelude.{◌≡◌, ◌⊎◌, ◌↔◌, ℕ, ◌==◌, ◌||◌, Bool, true, false, if◌then◌else◌, List, [], ◌∷◌, map, zip, length}
use Rattle.std.specs.Prelude.{Contains, Option, Some, None, slice_set, pos}
use Rattle.std.specs.Option.{option_map}
use Rattle.jvm_values.specs.declared.types.Ty.{Ty}
use Rattle.jvm_values.specs.declared.types.Slot.{Slot}
use Rattle.jvm_values.specs.declared.types.Slot.TheVariants as slots
use Rattle.jvm_values.specs.declared.shape.Shape.{Shape}
use Rattle.jvm_values.specs.declared.shape.Shape.TheVariants.{Tree, Dag, Any}
use Rattle.jvm_values.specs.TypedHeaps.{WorldTypes}
use Rattle.abs_cells.specs.declared.cells.Cell.{Cell}
use Rattle.abs_cells.specs.declared.cells.Cell.TheVariants as cells
use Rattle.abs_cells.specs.AbstractStates.{AbstractState}
use Rattle.abs_cells.specs.Cells.{is_hazy, cell_at, cell_in, HasCell, AreEqual, Share}
use Rattle.abs_cells.specs.Closures.{KnownFrom, MayBeIn, IsFiniteId}
use Rattle.abs_heap.specs.Given.{IsGiven, AreFresh, AreRising, with_cells, MayBeOne}
use Rattle.abs_heap.specs.Names.{name_in, frame_named, cell_named, IsImage}

-- ---- a write of w into k

-- a cell is that of an array of references
abbrev pub is_array_of_references : Cell → Bool
is_array_of_references (cells.Int interval) = false
is_array_of_references cells.Null = false
is_array_of_references (cells.Obj class ids) = false
is_array_of_references (cells.Nums kind len) = false
is_array_of_references (cells.Refs element len shape) = true
is_array_of_references (cells.Unk bound nullable shape) = false

-- the region of an id may have the object that is written into, whose id is k: a hazy id that shares with k, or k itself if
-- it is an array of references
abbrev pub IsAffected : AbstractState → ℕ → ℕ → Type 0
IsAffected state k x = (Share state k x × HasCell is_hazy state x) ⊎ ((x ≡ k) × HasCell is_array_of_references state k)

-- the region of an id may meet that of the written value, whose id is w: it is in the closure of w, or shares with an id
-- that is
pub record IsMet (state : AbstractState) (w z : ℕ) : Type 0 where
  pub from : ℕ
  pub known : KnownFrom state w from
  pub meets : (z ≡ from) ⊎ Share state from z

-- an id stands for null alone, so that a write of it joins nothing
abbrev pub IsNullId : AbstractState → ℕ → Type 0
IsNullId state w = cell_at state w ≡ Some cells.Null

-- a write makes no cycle in an affected region: the written value's region has none, and the written object cannot be in it
pub record MakesNoCycle (state : AbstractState) (k w : ℕ) : Type 0 where
  pub finite : IsFiniteId state w
  pub apart : MayBeIn state k w → ⊥

-- the shape of an affected region after a write: a write of null keeps it, one that makes no cycle may make it no tree, and
-- else it may be any
abbrev pub shape_after : Bool → Bool → Shape → Shape
shape_after null no_cycle Any = Any
shape_after true no_cycle Tree = Tree
shape_after true no_cycle Dag = Dag
shape_after false true Tree = Dag
shape_after false true Dag = Dag
shape_after false false Tree = Any
shape_after false false Dag = Any

-- a hazy cell with another shape; a cell that tells none stays
abbrev pub with_shape : (Shape → Shape) → Cell → Cell
with_shape change (cells.Int interval) = cells.Int interval
with_shape change cells.Null = cells.Null
with_shape change (cells.Obj class ids) = cells.Obj class ids
with_shape change (cells.Nums kind len) = cells.Nums kind len
with_shape change (cells.Refs element len shape) = cells.Refs element len (change shape)
with_shape change (cells.Unk bound nullable shape) = cells.Unk bound nullable (change shape)

-- a known instance with another id in one field; a write into an array changes no cell
abbrev pub with_field : Option ℕ → ℕ → Cell → Cell
with_field None w cell = cell
with_field (Some field) w (cells.Int interval) = cells.Int interval
with_field (Some field) w cells.Null = cells.Null
with_field (Some field) w (cells.Obj class ids) = cells.Obj class (slice_set ids field w)
with_field (Some field) w (cells.Nums kind len) = cells.Nums kind len
with_field (Some field) w (cells.Refs element len shape) = cells.Refs element len shape
with_field (Some field) w (cells.Unk bound nullable shape) = cells.Unk bound nullable shape

-- an id has a new number in a list of old and new numbers
abbrev pub is_renamed : List (ℕ × ℕ) → ℕ → Bool
is_renamed [] id = false
is_renamed (entry ∷ entries) id = (entry.0 == id) || is_renamed entries id

-- the affected ids of a write, rising, each with its new number, which are the least free ones in this order
pub record AreRenamed (state : AbstractState) (k : ℕ) (names : List (ℕ × ℕ)) : Type 0 where
  pub old_rise : AreRising (map (λ entry. entry.0) names)
  pub affected : (x : ℕ) → Contains (map (λ entry. entry.0) names) x ↔ IsAffected state k x
  pub fresh : AreFresh state (map (λ entry. entry.1) names)

-- a write of a reference: the id of the object, its field or none for an item of an array, and the id of the value
pub record Write : Type 0 where
  pub object : ℕ
  pub field : Option ℕ
  pub value : ℕ

-- the cell of an id after a write: with its new shape if the id is affected, and so has a new number
abbrev pub reshaped : List (ℕ × ℕ) → (Shape → Shape) → ℕ × Cell → Cell
reshaped names change c = if is_renamed names c.0 then with_shape change c.1 else c.1

-- the cell of an id, with the id, after a write: an affected id has its new number and its new shape, and the written field
-- has the id of the value
abbrev pub cell_after : List (ℕ × ℕ) → (Shape → Shape) → Write → ℕ × Cell → ℕ × Cell
cell_after names change write c = (
  name_in names c.0,
  cell_named (name_in names)
      (if c.0 == write.object then with_field write.field write.value (reshaped names change c) else reshaped names change c),
)

-- two ids share after a write that did not need to before: an affected one, and one that the written value's region may
-- meet
pub record GainsPair (state : AbstractState) (names : List (ℕ × ℕ)) (write : Write) (a b : ℕ) : Type 0 where
  pub x : ℕ
  pub z : ℕ
  pub affected : IsAffected state write.object x
  pub met : IsMet state write.value z
  pub written : IsNullId state write.value → ⊥
  pub left : name_in names x ≡ a
  pub right : name_in names z ≡ b

-- a state is the child of a write of a reference: the affected ids have new numbers and the shapes that the write leaves,
-- the field has the id of the value, and affected ids share with what the value's region may meet
pub record IsWriteChild (state : AbstractState) (write : Write) (child : AbstractState) : Type 0 where
  pub names : List (ℕ × ℕ)
  pub renamed : AreRenamed state write.object names
  pub null : Bool
  pub null_is : (null ≡ true) ↔ IsNullId state write.value
  pub no_cycle : Bool
  pub no_cycle_is : (no_cycle ≡ true) ↔ MakesNoCycle state write.object write.value
  pub is : IsGiven (map (frame_named (name_in names)) state.frames) (option_map (name_in names) state.throwing)
      (cell_in (map (cell_after names (shape_after null no_cycle) write) state.cells))
      (IsImage (name_in names) (AreEqual state))
      (λ a b. IsImage (name_in names) (Share state) a b ⊎ GainsPair state names write a b)
      child

-- ---- an item of an array of references

-- what the id of an item of an array k joins: each id that shares with k, and k itself where the array's region may have
-- cycles
pub record JoinsItem (state : AbstractState) (k item : ℕ) (shape : Shape) (a b : ℕ) : Type 0 where
  pub is_item : a ≡ item
  pub why : Share state k b ⊎ ((shape ≡ Any) × (b ≡ k))

-- a child in which an item of an array of references is read under a fresh id, which shares with the array and joins what
-- it may share with
pub record IsItemChild (sub : Ty → Ty → Bool) (state : AbstractState) (k : ℕ) (element : Ty) (shape : Shape) (item : ℕ)
    (child : AbstractState) : Type 0 where
  pub fresh : AreFresh state (item ∷ [])
  pub is : IsGiven state.frames state.throwing (with_cells ((item, cells.Unk element true shape) ∷ []) state)
      (λ a b. AreEqual state a b ⊎ MayBeOne sub (JoinsItem state k item shape) child.cells a b)
      (λ a b. Share state a b ⊎ (JoinsItem state k item shape a b ⊎ ((a ≡ item) × (b ≡ k))))
      child

-- ---- new objects

-- the cell of a field of a new object, which is 0 or null (JVM specification 2.3 and 2.4)
abbrev pub zero_cell : Slot → Cell
zero_cell (slots.Num kind) = cells.Int (record { lo = pos 0; hi = pos 0 })
zero_cell (slots.Ref t) = cells.Null

-- a child in which a new instance of a class is made: it has a fresh id, and its fields have the fresh ids after that
pub record IsObjectChild (types : WorldTypes) (state : AbstractState) (class id : ℕ) (child : AbstractState) : Type 0 where
  pub ids : List ℕ
  pub count : length ids ≡ length (types.fields class)
  pub fresh : AreFresh state (id ∷ ids)
  pub is : IsGiven state.frames state.throwing
      (with_cells ((id, cells.Obj class ids) ∷ zip ids (map zero_cell (types.fields class))) state) (AreEqual state) (Share state) child

-- the cell of a new array, whose items are 0 or null
abbrev pub array_cell : (Ty → Ty) → Slot → ℕ → Cell
array_cell erase (slots.Num kind) len = cells.Nums kind len
array_cell erase (slots.Ref t) len = cells.Refs (erase t) len Tree

-- a child in which a new array is made under a fresh id; its length is the int of an id that is there
pub record IsNewArrayChild (erase : Ty → Ty) (state : AbstractState) (element : Slot) (len id : ℕ) (child : AbstractState) : Type 0 where
  pub fresh : AreFresh state (id ∷ [])
  pub is : IsGiven state.frames state.throwing (with_cells ((id, array_cell erase element len) ∷ []) state) (AreEqual state)
      (Share state) child
