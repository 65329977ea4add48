-- The tests of positions, as they run.
use Rattle.std.specs.Prelude.{ℕ, ◌+◌, ◌==◌, Bool, true, false, ◌&&◌, if◌then◌else◌, List, [], ◌∷◌, length, map, take, drop, slice_get}
use Rattle.std.specs.Prelude.{Option, Some, None, option_and_then}
use Rattle.std.specs.Option.{option_map_or}
use Rattle.jvm_values.specs.declared.types.Slot.{Slot}
use Rattle.jvm_values.specs.declared.types.Slot.TheVariants as slots
use Rattle.jvm_values.specs.declared.typing.PlaceType.{PlaceType}
use Rattle.jvm_values.specs.declared.typing.PlaceType.TheVariants as places
use Rattle.abs_cells.specs.declared.cells.Cell.{Cell}
use Rattle.abs_cells.specs.Cells.{is_int, is_of_sort, cell_in}
use Rattle.abs_cells.specs.AbstractStates.{AbstractFrame, AbstractState}
use Rattle.abs_reach.specs.Instances.{is_no_int}
use Rattle.abs_reach.specs.abs_sound.Zips.{all_zip}
use Rattle.jvm_values.specs.States.{PlaceTypes}
use Rattle.class_program.specs.declared.program.Method.{Method}
use Rattle.class_program.specs.declared.program.StaticField.{StaticField}
use Rattle.class_program.specs.Programs.{Program}
use Rattle.abs_plans.specs.FrameTypesTables.{CodeTypes}
use Rattle.abs_expand.specs.BadStates.{call_at}

-- the test of an entry of a stack: its id is an int where the typing has an int, and no int where it has a reference or null
abbrev pub is_entry_of : List (ℕ × Cell) → PlaceType → ℕ → Bool
is_entry_of cells places.Unset id = true
is_entry_of cells places.Int id = is_of_sort is_int (cell_in cells id)
is_entry_of cells places.Null id = is_of_sort is_no_int (cell_in cells id)
is_entry_of cells (places.Ref t) id = is_of_sort is_no_int (cell_in cells id)

-- the test of a local: it holds an id of its place's type, or the place has no type
abbrev pub is_of_place : List (ℕ × Cell) → PlaceType → Option ℕ → Bool
is_of_place cells place (Some id) = is_entry_of cells place id
is_of_place cells places.Unset None = true
is_of_place cells places.Int None = false
is_of_place cells places.Null None = false
is_of_place cells (places.Ref t) None = false

-- the test of a static field's position: it holds an id of the field's type
abbrev pub is_of_field : List (ℕ × Cell) → Slot → Option ℕ → Bool
is_of_field cells slot None = false
is_of_field cells (slots.Num kind) (Some id) = is_of_sort is_int (cell_in cells id)
is_of_field cells (slots.Ref t) (Some id) = is_of_sort is_no_int (cell_in cells id)

-- the test of the positions of all static fields: as many as there are fields, each of its field's type
abbrev pub are_of_fields : List (ℕ × Cell) → List StaticField → List (Option ℕ) → Bool
are_of_fields cells statics locals = all_zip (is_of_field cells) (map (λ (field : StaticField). field.slot) statics) locals

-- the test of a frame's locals: as many as the method's and the static fields, each of its type
abbrev pub has_locals : List (ℕ × Cell) → ℕ → List PlaceType → List StaticField → List (Option ℕ) → Bool
has_locals cells max wanted statics locals = (length locals == max + length statics)
    && (all_zip (is_of_place cells) wanted (take max locals) && are_of_fields cells statics (drop max locals))

-- the types at a frame's place, if the frame's locals pass their test
abbrev pub if_locals : List (ℕ × Cell) → List StaticField → List (Option ℕ) → Method → PlaceTypes → Option PlaceTypes
if_locals cells statics locals method there = if has_locals cells method.max_locals there.locals statics locals then Some there else None

-- the types at a frame's place, if its method is one of the program's, the typing has the place and its locals pass their test
abbrev pub placed_at : Program → (ℕ → CodeTypes) → List (ℕ × Cell) → List StaticField → AbstractFrame → Option PlaceTypes
placed_at p typing cells statics frame = option_and_then
    (λ (method : Method). option_and_then (if_locals cells statics frame.locals method) (typing frame.method frame.pc))
    (slice_get p.methods frame.method)

-- the test of a stack against that of its place without so many of its topmost entries
abbrev pub is_stack_at : List (ℕ × Cell) → ℕ → PlaceTypes → List ℕ → Bool
is_stack_at cells count there stack = all_zip (is_entry_of cells) (drop count there.stack) stack

-- the test of a caller's stack, without the arguments of its call; that of a frame at no call passes
abbrev pub is_callers_stack : List (ℕ × Cell) → Option ℕ → PlaceTypes → List ℕ → Bool
is_callers_stack cells None there stack = true
is_callers_stack cells (Some count) there stack = is_stack_at cells count there stack

-- the test of the running frame's stack, which is empty while a handler is looked for
abbrev pub is_running_stack : List (ℕ × Cell) → Option ℕ → PlaceTypes → List ℕ → Bool
is_running_stack cells None there stack = is_stack_at cells 0 there stack
is_running_stack cells (Some thrown) there stack = length stack == 0

-- the test of a frame below the running one, with its locals and its stack
abbrev pub caller_test : Program → (ℕ → CodeTypes) → List (ℕ × Cell) → List StaticField → AbstractFrame → Bool
caller_test p typing cells statics frame = option_map_or (λ (there : PlaceTypes). is_callers_stack cells (call_at p frame) there
    frame.stack) (placed_at p typing cells statics frame) false

-- the test of the running frame, with its locals and its stack
abbrev pub running_test : Program → (ℕ → CodeTypes) → List (ℕ × Cell) → Option ℕ → List StaticField → AbstractFrame → Bool
running_test p typing cells thrown statics frame = option_map_or (λ (there : PlaceTypes). is_running_stack cells thrown there
    frame.stack) (placed_at p typing cells statics frame) false

-- the static fields whose ids follow the locals of a frame over so many others: all at the bottom frame, and none else
abbrev pub fields_under : Program → ℕ → List StaticField
fields_under p below = if below == 0 then p.statics else []

-- the test of all frames below the running one
abbrev pub callers_test : Program → (ℕ → CodeTypes) → List (ℕ × Cell) → List AbstractFrame → Bool
callers_test p typing cells [] = true
callers_test p typing cells (frame ∷ below) = caller_test p typing cells (fields_under p (length below)) frame
    && callers_test p typing cells below

-- the test of all positions of a state
abbrev pub placed_test : Program → (ℕ → CodeTypes) → AbstractState → List AbstractFrame → Bool
placed_test p typing state [] = true
placed_test p typing state (frame ∷ below) = running_test p typing state.cells state.throwing (fields_under p (length below)) frame
    && callers_test p typing state.cells below
