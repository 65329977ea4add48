-- The test of an instance's fields, as it runs.
use Rattle.std.specs.Prelude.{ℕ, Bool, List}
use Rattle.jvm_values.specs.declared.types.Slot.{Slot}
use Rattle.jvm_values.specs.declared.types.Slot.TheVariants as slots
use Rattle.abs_cells.specs.declared.cells.Cell.{Cell}
use Rattle.abs_cells.specs.Cells.{is_int, is_of_sort, cell_in}
use Rattle.abs_reach.specs.Instances.{is_no_int}

-- an id has a cell that a field of a type may have: an int's for a number, and else a reference's or `Null`
abbrev pub is_of_slot : List (ℕ × Cell) → Slot → ℕ → Bool
is_of_slot cells (slots.Num kind) id = is_of_sort is_int (cell_in cells id)
is_of_slot cells (slots.Ref t) id = is_of_sort is_no_int (cell_in cells id)
