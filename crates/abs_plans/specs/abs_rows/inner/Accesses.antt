-- Accesses of arrays at an index, by what they do within the bounds.
use Rattle.std.specs.Prelude.{ℕ, Bool, true, false, not, if◌then◌else◌, List, [], ◌∷◌, Option, Some, None}
use Rattle.std.specs.Option.{option_map, option_and_then}
use Rattle.abs_cells.specs.declared.cells.Cell.{Cell}
use Rattle.abs_cells.specs.declared.cells.Cell.TheVariants as cells
use Rattle.abs_ints.specs.Comparing.{related}
use Rattle.abs_ints.specs.declared.cases.IntCase.{IntCase}
use Rattle.abs_ints.specs.declared.cases.Way.TheVariants.{Taken}
use Rattle.abs_ints.specs.declared.relations.Relation.TheVariants.{AtLeast}
use Rattle.abs_turns.specs.class_world.BuiltIns.{array_index_out_of_bounds_exception, array_store_exception}
use Rattle.abs_turns.specs.term_graph.declared.links.LinkRow.{LinkRow}
use Rattle.abs_plans.specs.declared.abs_rows.arrays.Access.{Access}
use Rattle.abs_plans.specs.declared.abs_rows.arrays.Access.TheVariants.{Number, NumberStore, Item, ItemStore}
use Rattle.abs_plans.specs.declared.abs_rows.arrays.Inside.{Inside}
use Rattle.abs_turns.specs.Plans.{Act, nothing, makes, writes, item, Goal, nowhere, on_stack, Turn}
use Rattle.abs_turns.specs.Turns.{Here, id, with_stack, interval_of_id, narrowings, rows_over, throws_after, is_taken}
use Rattle.abs_turns.specs.Table.{cell_here, is_null_here, length_id, items_of, of_kind}
use Rattle.abs_turns.specs.PlansSeen.{rows_seen}

-- what the code says of an access within the bounds, as the definitions have it: the narrowed cells of index and length, and the link's
-- rows
abbrev pub inside_seen : Inside → List (ℕ × Cell) × (ℕ → List LinkRow)
inside_seen inside = (inside.narrowed, rows_seen inside.rows)

-- a case of a comparison, if it is one in which the condition holds
abbrev pub if_taken : IntCase → Option IntCase
if_taken case = if is_taken case.way then Some case else None

-- the step that throws ArrayIndexOutOfBoundsException where the index may be at least the length: both are narrowed to that, and the
-- link's rows say so
abbrev pub past_the_end : Here → ℕ → ℕ → Option Turn
past_the_end here index len = option_and_then
    (λ (case : IntCase). option_map (λ narrowed. throws_after here narrowed (rows_over (id index) (id len) case.rows)
    array_index_out_of_bounds_exception) (narrowings (id index) case.left (id len) case.right))
    (related AtLeast Taken (interval_of_id here.state index) (interval_of_id here.state len))

-- what an access to the array k does within the bounds (JVM specification 6.5.iaload, 6.5.iastore, 6.5.aaload, 6.5.aastore): a load of a
-- number makes a fresh id, some number of the array's kind; a store of a number does nothing to ids; a load of a reference makes a fresh
-- id for the item; a store of a reference writes it
abbrev pub access_act : Here → Access → ℕ → Act
access_act here Number k = makes (cells.Int (of_kind (cell_here here k)))
access_act here NumberStore k = nothing
access_act here Item k = item k
access_act here (ItemStore value) k = writes (record { object = k; field = None; value = value })

-- where the fresh id of an access goes: that of a load on the stack; a store makes none
abbrev pub access_goal : Access → Goal
access_goal Number = on_stack
access_goal NumberStore = nowhere
access_goal Item = on_stack
access_goal (ItemStore value) = nowhere

-- the step of an access within the bounds: to the next instruction, with the rest of the stack, the narrowed cells and the link's rows
abbrev pub access_turn : Here → Access → ℕ → List ℕ → List (ℕ × Cell) → (ℕ → List LinkRow) → Turn
access_turn here access k stack narrowed rows = record {
  changed = narrowed;
  frames = with_stack here here.next stack;
  throwing = None;
  act = access_act here access k;
  goal =
      access_goal access;
  rows = rows;
}

-- the array may not take what is stored: a reference that isn't null, since the array may have been made for a lower type
abbrev pub may_not_fit : Here → Access → Bool
may_not_fit here Number = false
may_not_fit here NumberStore = false
may_not_fit here Item = false
may_not_fit here (ItemStore value) = not (is_null_here here value)

-- the steps of an access within the bounds: the access itself, and ArrayStoreException where the array may not take what is stored (JVM
-- specification 6.5.aastore)
abbrev pub good_of : Here → Access → ℕ → List ℕ → List (ℕ × Cell) → (ℕ → List LinkRow) → List Turn
good_of here access k stack narrowed rows = access_turn here access k stack narrowed rows
    ∷ (if may_not_fit here access then throws_after here narrowed rows array_store_exception ∷ [] else [])

-- the id of the length of the array k, if its cell is one that the access takes: a load of a reference takes an array of references
-- alone, with another id as its index
abbrev pub length_of : Here → Access → ℕ → ℕ → Option ℕ
length_of here Number k index = length_id (cell_here here k)
length_of here NumberStore k index = length_id (cell_here here k)
length_of here Item k index = items_of here k index
length_of here (ItemStore value) k index = length_id (cell_here here k)
