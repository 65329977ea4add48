use Rattle.std.proofs.Common.{◌≡◌, ℕ, ◌<◌, true, Some}
use Rattle.abs_cells.specs.IdSets.{has_id}
use Rattle.abs_cells.specs.PackedBits.{slot_of}
use Rattle.abs_cells.specs.inner.PackedRows.{HasSlot}
use Rattle.abs_cells.proofs.packed.slots_of.Given as goal

abbrev pub invariant-loop-id : goal.invariant-loop-id
invariant-loop-id l = ((a s : ℕ) → a < l.id → slot_of l.slots a ≡ Some s → has_id l.set a ≡ true → has_id l.found s ≡ true)
    × ((s : ℕ) → has_id l.found s ≡ true → HasSlot l.slots l.set s)
