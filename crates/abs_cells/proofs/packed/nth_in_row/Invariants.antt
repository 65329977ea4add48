use Rattle.std.proofs.Common.{length}
use Rattle.abs_cells.specs.PackedBits.{hit}
use Rattle.abs_cells.specs.inner.PackedRows.{whole_row}
use Rattle.abs_cells.proofs.PackedLooks.{IsInRow}
use Rattle.abs_cells.proofs.packed.nth_in_row.Given as goal

abbrev pub invariant-loop-b : goal.invariant-loop-b
invariant-loop-b l = IsInRow (whole_row l.packed.slots.items l.packed.words.items l.a) l.fn.n
    (hit l.packed.slots.items l.packed.words.items l.a) l.a l.b (length l.packed.slots.items) l.left
