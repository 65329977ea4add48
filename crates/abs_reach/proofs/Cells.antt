-- What the test of fields says of cells.
use Rattle.std.proofs.Common.{◌≡◌, ℕ, true, List}
use Rattle.std.specs.List.{AllZip}
use Rattle.jvm_values.specs.declared.types.Slot.{Slot}
use Rattle.jvm_values.specs.declared.types.Slot.TheVariants as slots
use Rattle.abs_cells.specs.AbstractStates.{AbstractState}
use Rattle.abs_cells.specs.Cells.{is_int}
use Rattle.abs_cells.specs.Sound.{IsOfSlot}
use Rattle.abs_cells.proofs.Checking.{has_cell_from, has_cell_to}
use Rattle.abs_reach.specs.Instances.{is_no_int}
use Rattle.abs_reach.specs.abs_sound.Zips.{all_zip}
use Rattle.abs_reach.specs.abs_sound.Tests.{is_of_slot}
use Rattle.abs_reach.proofs.Zipped.{zip_gives, zip_given}

module _ (state : AbstractState) where
  slot_from : (slot : Slot) (id : ℕ) → is_of_slot state.cells slot id ≡ true → IsOfSlot state slot id
  slot_from (slots.Num kind) id e = has_cell_from is_int state id e
  slot_from (slots.Ref t) id e = has_cell_from is_no_int state id e

  slot_to : (slot : Slot) (id : ℕ) → IsOfSlot state slot id → is_of_slot state.cells slot id ≡ true
  slot_to (slots.Num kind) id h = has_cell_to is_int state id h
  slot_to (slots.Ref t) id h = has_cell_to is_no_int state id h

  pub fields_from : (slots : List Slot) (ids : List ℕ) → all_zip (is_of_slot state.cells) slots ids ≡ true
      → AllZip (IsOfSlot state) slots ids
  fields_from = zip_gives (is_of_slot state.cells) (IsOfSlot state) slot_from

  pub fields_to : (slots : List Slot) (ids : List ℕ) → AllZip (IsOfSlot state) slots ids
      → all_zip (is_of_slot state.cells) slots ids ≡ true
  fields_to = zip_given (is_of_slot state.cells) (IsOfSlot state) slot_to
