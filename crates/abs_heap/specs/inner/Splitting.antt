-- Words of private calls: how the children of a split by class are listed, one case after another.
use Rattle.std.specs.Prelude.{◌≡◌, ◌⊎◌, ℕ, ◌+◌, ◌<◌, nat_lt, Bool, ◌&&◌, true, false, if◌then◌else◌, List, [], ◌∷◌, ◌++◌, map}
use Rattle.std.specs.Prelude.{filter, zip, length, Some, None, Result, Ok, Err, slice_get}
use Rattle.std.specs.List.{AllZip}
use Rattle.jvm_values.specs.declared.types.Ty.{Ty}
use Rattle.jvm_values.specs.declared.types.Kind.{Kind}
use Rattle.jvm_values.specs.declared.types.Slot.{Slot}
use Rattle.jvm_values.specs.declared.types.Slot.TheVariants as slots
use Rattle.jvm_values.specs.declared.shape.Shape.{Shape}
use Rattle.jvm_values.specs.Subtyping.{class_type, array_of_numbers}
use Rattle.jvm_values.specs.TypedHeaps.{WorldTypes}
use Rattle.abs_cells.specs.declared.cells.Cell.{Cell}
use Rattle.abs_cells.specs.declared.cells.Cell.TheVariants as cells
use Rattle.abs_cells.specs.AbstractStates.{AbstractState}
use Rattle.abs_cells.specs.Cells.{cell_in, AreEqual, Share}
use Rattle.abs_cells.specs.IdSets.{has_id}
use Rattle.abs_cells.specs.Limits.{most_ids}
use Rattle.term_graph.specs.Graphs.{GraphChild}
use Rattle.abs_heap.specs.inner.Building.{may_be_one}
use Rattle.abs_heap.specs.Counts.{new_ids}
use Rattle.abs_heap.specs.Given.{IsGiven, MayBeOne, with_cells}
use Rattle.abs_heap.specs.Laws.{plain_link}
use Rattle.abs_heap.specs.Refining.{Case, instance, numbers, IsCase, IsArrayChild, cell_of_slot, JoinsFields}

-- the cases of some classes: of those of them below a type of which there are instances
abbrev pub instances_among : WorldTypes → Ty → List ℕ → List Case
instances_among types bound classes = map instance (filter (λ class. types.can_be_made class && types.sub (class_type class) bound)
    classes)

-- the cases of some kinds: of the arrays of those of them whose arrays are below a type
abbrev pub numbers_among : WorldTypes → Ty → List Kind → List Case
numbers_among types bound kinds = map numbers (filter (λ kind. types.sub (array_of_numbers kind) bound) kinds)

-- the child of a case has more ids than an abstract state may have
abbrev pub crowds : WorldTypes → AbstractState → Case → Bool
crowds types state case = nat_lt most_ids (length state.cells + new_ids types case)

-- the number of the first case that passes a test, or how many cases there are if none does; so many cases have passed
-- before
abbrev pub first_crowd : (Case → Bool) → List Case → ℕ → Result ℕ ℕ
first_crowd test [] passed = Ok passed
first_crowd test (case ∷ cases) passed = if test case then Err passed else first_crowd test cases (passed + 1)

-- an abstract state as a child to which an edge of no step and without merged ids leads
abbrev pub plain_child : AbstractState → GraphChild
plain_child state = record { state = state; link = plain_link false None }

-- a list of children gained at its end those of some cases, in order
pub record AddsCases (types : WorldTypes) (state : AbstractState) (x : ℕ) (shape : Shape) (cases : List Case)
    (old new : List GraphChild) : Type 0 where
  pub states : List AbstractState
  pub are : AllZip (IsCase types state x shape) cases states
  pub is : new ≡ old ++ map plain_child states

-- a child, with its plain link, is that of a case
pub record IsCaseAnswer (types : WorldTypes) (state : AbstractState) (x : ℕ) (shape : Shape) (case : Case)
    (child : GraphChild) : Type 0 where
  pub is : IsCase types state x shape case child.state
  pub link : child.link ≡ plain_link false None

-- a child, with its plain link, is one in which x is an array with a fresh length
pub record IsArrayAnswer (state : AbstractState) (x : ℕ) (cell : ℕ → Cell) (child : GraphChild) : Type 0 where
  pub is : IsArrayChild state x cell child.state
  pub link : child.link ≡ plain_link false None

-- a state is the child in which x is a known instance whose fields have these ids, without the condition that they are
-- fresh
abbrev pub IsGivenInstance : WorldTypes → AbstractState → ℕ → Shape → ℕ → List ℕ → AbstractState → Type 0
IsGivenInstance types state x shape class ids child = IsGiven state.frames state.throwing
    (with_cells ((x, cells.Obj class ids) ∷ zip ids (map (cell_of_slot types.erase shape) (types.fields class))) state)
    (λ a b. AreEqual state a b ⊎ MayBeOne types.sub (JoinsFields (types.fields class) ids state x shape) child.cells a b)
    (λ a b. Share state a b ⊎ JoinsFields (types.fields class) ids state x shape a b)
    child

-- an id stands for a field of a reference type that comes before a place among an instance's fields
pub record IsFieldBefore (fields : List Slot) (ids : List ℕ) (end f : ℕ) : Type 0 where
  pub place : ℕ
  pub before : place < end
  pub t : Ty
  pub slot_is : slice_get fields place ≡ Some (slots.Ref t)
  pub id_is : slice_get ids place ≡ Some f

-- an id of one set and an id of another are wanted as a pair that may be one object, since their cells are compatible
abbrev pub WantsOne : (Ty → Ty → Bool) → List (ℕ × Cell) → List ℕ → List ℕ → ℕ → ℕ → Type 0
WantsOne sub list ids others a b = (has_id ids a ≡ true)
    × ((has_id others b ≡ true) × (may_be_one sub (cell_in list a) (cell_in list b) ≡ true))
