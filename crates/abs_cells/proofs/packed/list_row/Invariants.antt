use Rattle.std.proofs.Common.{◌≡◌, ◌-◌, ◌++◌, length}
use Rattle.abs_cells.specs.PackedBits.{hit, row_from}
use Rattle.abs_cells.specs.inner.PackedRows.{whole_row}
use Rattle.abs_cells.proofs.packed.list_row.Given as goal

abbrev pub invariant-loop-b : goal.invariant-loop-b
invariant-loop-b l = l.list.items ++ row_from (hit l.packed.slots.items l.packed.words.items l.a) l.a l.b
    (length l.packed.slots.items - l.b) ≡ l.fn.list.items ++ whole_row l.packed.slots.items l.packed.words.items l.a
