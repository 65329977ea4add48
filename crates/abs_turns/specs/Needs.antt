-- What the rows of the table ask of the operands of an abstract state.
use Rattle.std.specs.Prelude.{ℕ, Bool, false, not, ◌&&◌, if◌then◌else◌, List, [], ◌∷◌, Option, Some, None, map, zip, reverse, take}
use Rattle.std.specs.List.{find}
use Rattle.std.specs.Option.{option_map_or}
use Rattle.jvm_values.specs.declared.types.Ty.{Ty}
use Rattle.jvm_values.specs.declared.typing.PlaceType.{PlaceType}
use Rattle.jvm_values.specs.declared.typing.PlaceType.TheVariants as places
use Rattle.jvm_values.specs.TypedHeaps.{WorldTypes}
use Rattle.abs_cells.specs.declared.cells.Cell.{Cell}
use Rattle.abs_cells.specs.declared.cells.Cell.TheVariants.{Int, Null, Obj, Nums, Refs, Unk}
use Rattle.abs_cells.specs.AbstractStates.{AbstractState}
use Rattle.abs_cells.specs.Cells.{is_known, is_comparable, is_of_sort, type_of_cell, cell_at}
use Rattle.abs_cells.specs.PairLists.{has}
use Rattle.abs_turns.specs.Plans.{Plan, no_child, by_null, by_class, by_equal}

-- ---- the test of references

-- how an operand goes with the type that the typing gives its place: it can be of that type and passes; it can't and fails; or it can
-- only if it is null, and is split
pub data Passing : Type 0 where
  passes : Passing
  fails : Passing
  splits : Passing

-- a cell's type is below the reference type of its place; none is below the type of null, or below that of a place without references
abbrev pub is_below_place : WorldTypes → PlaceType → Option Ty → Bool
is_below_place types (places.Ref t) (Some s) = types.sub s t
is_below_place types _ _ = false

-- of a cell's type and the reference type of its place one is below the other, so that one object may have both; never with the type of
-- null, or with a place without references
abbrev pub is_comparable_place : WorldTypes → PlaceType → Option Ty → Bool
is_comparable_place types (places.Ref t) (Some s) = is_comparable types.sub s t
is_comparable_place types _ _ = false

-- an operand passes where its test holds, and else what is given comes
abbrev pub passes_if : Bool → Passing → Passing
passes_if ok else_ = if ok then passes else else_

-- how a cell goes with the type of its place: ints and null pass; an instance and an array of numbers, whose types are exact, pass where
-- their type is below the place's; an array of references and an object of unknown class pass where one of the two types is below the
-- other, and else such an object is split if it may be null
abbrev pub passing : WorldTypes → PlaceType → Cell → Passing
passing types place (Int interval) = passes
passing types place Null = passes
passing types place (Obj class ids) = passes_if (is_below_place types place (type_of_cell (Obj class ids))) fails
passing types place (Nums kind len) = passes_if (is_below_place types place (type_of_cell (Nums kind len))) fails
passing types place (Refs element len shape) = passes_if (is_comparable_place types place (type_of_cell (Refs element len shape))) fails
passing types place (Unk bound nullable shape) = passes_if (is_comparable_place types place (Some bound))
    (if nullable then splits else fails)

-- what comes after the test of an operand: the plan where it passes, no child where it fails, and the split by null
abbrev pub after_test : Passing → ℕ → Plan → Plan
after_test passes id plan = plan
after_test fails id plan = no_child
after_test splits id plan = by_null id

-- how an id's cell goes with the type of its place; an id without a cell passes, and a good state has none
abbrev pub passing_id : WorldTypes → AbstractState → PlaceType → ℕ → Passing
passing_id types state place id = option_map_or (passing types place) (cell_at state id) passes

-- the operands of a form are tested one after another, before the form's own plan comes
abbrev pub tested : WorldTypes → AbstractState → List (PlaceType × ℕ) → Plan → Plan
tested types state [] plan = plan
tested types state (operand ∷ operands) plan = after_test (passing_id types state operand.0 operand.1) operand.1
    (tested types state operands plan)

-- the operands of a form that takes so many entries of the stack, the lowest first, each with its place's type; stacks are seen top first
abbrev pub operands_of : ℕ → List PlaceType → List ℕ → List (PlaceType × ℕ)
operands_of count places stack = reverse (take count (zip places stack))

-- ---- needs

-- a cell is that of a reference that may be null and may be an object
abbrev pub may_be_null : Option Cell → Bool
may_be_null (Some (Unk bound nullable shape)) = nullable
may_be_null _ = false

-- a plan that needs to know of an id whether it is null: one that may be null and may be an object is split by that first
abbrev pub need_null : AbstractState → ℕ → Plan → Plan
need_null state id plan = if may_be_null (cell_at state id) then by_null id else plan

-- a cell is that of an object, not null, whose class isn't known
abbrev pub is_unknown : Option Cell → Bool
is_unknown (Some (Unk bound nullable shape)) = not nullable
is_unknown _ = false

-- the least id of known class that may be the same object as a given id
abbrev pub known_partner : AbstractState → ℕ → Option ℕ
known_partner state id = find (λ (other : ℕ). is_of_sort is_known (cell_at state other) && has id other state.eq)
    (map (λ (c : ℕ × Cell). c.0) state.cells)

-- the split of an object of unknown class: by whether it is the object of a known id, where there is one, else by class
abbrev pub split_unknown : ℕ → Ty → Option ℕ → Plan
split_unknown id wanted None = by_class id wanted
split_unknown id wanted (Some other) = by_equal id other

-- the split of an object of unknown class by the type of its place; there is no child where the place has no reference type
abbrev pub split_below : AbstractState → ℕ → PlaceType → Plan
split_below state id (places.Ref t) = split_unknown id t (known_partner state id)
split_below state id _ = no_child

-- a plan that needs to know an object's class: an object of unknown class is split first
abbrev pub need_class : AbstractState → ℕ → PlaceType → Plan → Plan
need_class state id place plan = if is_unknown (cell_at state id) then split_below state id place else plan

-- a plan that needs an id to be null or an object of known class: the id is split by null first, then by class
abbrev pub need_object : AbstractState → ℕ → PlaceType → Plan → Plan
need_object state id place plan = need_null state id (need_class state id place plan)
