-- Well-formed abstract states, and those that are sound for the types of a world.
use Rattle.std.specs.Prelude.{◌≡◌, ◌≢◌, ℕ, suc, ◌<◌, ◌≤◌, Bool, true, false, not, ◌&&◌, List, [], ◌∷◌, ◌++◌, All, IsTrue, Option}
use Rattle.std.specs.Prelude.{Some, None}
use Rattle.std.specs.List.{AllZip, flat_map}
use Rattle.jvm_values.specs.declared.types.Slot.{Slot}
use Rattle.jvm_values.specs.declared.types.Slot.TheVariants as slots
use Rattle.jvm_values.specs.declared.types.Kind.TheVariants as kinds
use Rattle.jvm_values.specs.Kinds.{IsOfKind}
use Rattle.jvm_values.specs.Subtyping.{array_of, IsReference, IsErased}
use Rattle.jvm_values.specs.TypedHeaps.{WorldTypes}
use Rattle.abs_cells.specs.declared.cells.Cell.{Cell}
use Rattle.abs_cells.specs.declared.cells.Cell.TheVariants.{Int, Null, Obj, Nums, Refs, Unk}
use Rattle.abs_cells.specs.AbstractStates.{AbstractFrame, AbstractState}
use Rattle.abs_cells.specs.PairLists.{has}
use Rattle.abs_cells.specs.Cells.{is_known, is_reference, is_int, ids_in, is_of_sort, cell_in, HasCell, AreEqual, Share}

-- cells are listed by ids that rise, the first of them at least a number, and all below 2,048
abbrev pub AreIdsRising : ℕ → List (ℕ × Cell) → Type 0
AreIdsRising low [] = Unit {0}
AreIdsRising low (c ∷ cells) = (low ≤ c.0) × ((c.0 < 2048) × AreIdsRising (suc c.0) cells)

-- the ids of the locals that have one, in order
abbrev pub given_ids : List (Option ℕ) → List ℕ
given_ids [] = []
given_ids (None ∷ locals) = given_ids locals
given_ids (Some id ∷ locals) = id ∷ given_ids locals

-- the ids at the places of a frame: those of its locals, then those of its operand stack
abbrev pub ids_of_frame : AbstractFrame → List ℕ
ids_of_frame frame = given_ids frame.locals ++ frame.stack

-- every id that the frames, the thrown object and the cells of an abstract state name
abbrev pub ids_used : AbstractState → List ℕ
ids_used state = flat_map ids_of_frame state.frames ++ (given_ids (state.throwing ∷ []) ++ flat_map (λ c. ids_in c.1) state.cells)

-- two ids may be a pair: both have cells of references, and not both cells are known
abbrev pub may_join : List (ℕ × Cell) → ℕ → ℕ → Bool
may_join cells a b = (is_of_sort is_reference (cell_in cells a) && is_of_sort is_reference (cell_in cells b)) && not
    (is_of_sort is_known (cell_in cells a) && is_of_sort is_known (cell_in cells b))

-- all pairs of a list are of two ids that may be a pair, by their cells
abbrev pub MayAllJoin : List (ℕ × Cell) → List (ℕ × ℕ) → Type 0
MayAllJoin cells pairs = (a b : ℕ) → a < b → has a b pairs ≡ true → may_join cells a b ≡ true

-- an abstract state is well-formed: its cells rise by id, and ids are below 2,048; every id that is used has a cell; each
-- pair of ids that may be one object is a pair that shares as well; pairs join references, and not two known ones
pub record IsWellFormed (state : AbstractState) : Type 0 where
  pub rising : AreIdsRising 0 state.cells
  pub used : All (HasCell (λ _. true) state) (ids_used state)
  pub shared : (a b : ℕ) → AreEqual state a b → Share state a b
  pub left : (a b : ℕ) → a < b → Share state a b → HasCell is_reference state a
  pub right : (a b : ℕ) → a < b → Share state a b → HasCell is_reference state b
  pub not_both_known : (a b : ℕ) → a < b → Share state a b → HasCell is_known state a → HasCell is_known state b → ⊥

-- an id has a cell that a field of a type may have: an int's for a number, and else a reference's or `Null`
abbrev pub IsOfSlot : AbstractState → Slot → ℕ → Type 0
IsOfSlot state (slots.Num kind) id = HasCell is_int state id
IsOfSlot state (slots.Ref t) id = HasCell (λ cell. not (is_int cell)) state id

-- what a cell says is sound for a world's types: the ends of an interval are ints of 32 bits; lengths are ints; an instance
-- is of a class that can be made and has an id for each field; types are reference types of the world and their own
-- erasure, those of arrays too
abbrev pub IsSoundCell : WorldTypes → AbstractState → Cell → Type 0
IsSoundCell types state (Int interval) = IsOfKind kinds.Int interval.lo × IsOfKind kinds.Int interval.hi
IsSoundCell types state Null = Unit {0}
IsSoundCell types state (Obj class ids) = (class < types.classes)
    × (IsTrue (types.can_be_made class) × AllZip (IsOfSlot state) (types.fields class) ids)
IsSoundCell types state (Nums kind len) = HasCell is_int state len
IsSoundCell types state (Refs element len shape) = HasCell is_int state len
    × ((IsReference types.classes element × IsErased types.erase element)
    × (IsReference types.classes (array_of element) × IsErased types.erase (array_of element)))
IsSoundCell types state (Unk bound nullable shape) = IsReference types.classes bound × IsErased types.erase bound

-- a cell stands for an object, and never for null
abbrev pub is_object : Cell → Bool
is_object (Int interval) = false
is_object Null = false
is_object (Obj class ids) = true
is_object (Nums kind len) = true
is_object (Refs element len shape) = true
is_object (Unk bound nullable shape) = not nullable

-- an abstract state is sound for a world's types: it is well-formed and has a frame, its cells are sound, and the thrown
-- id, if any, is an object's
pub record IsSound (types : WorldTypes) (state : AbstractState) : Type 0 where
  pub well_formed : IsWellFormed state
  pub framed : state.frames ≢ []
  pub cells : All (λ c. IsSoundCell types state c.1) state.cells
  pub thrown : (id : ℕ) → state.throwing ≡ Some id → HasCell is_object state id
