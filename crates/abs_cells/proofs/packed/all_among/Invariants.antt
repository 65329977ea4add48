use Rattle.std.proofs.Common.{ℕ, ◌<◌}
use Rattle.abs_cells.specs.PackedBits.{hit}
use Rattle.abs_cells.specs.inner.PackedRows.{IsRowAmong}
use Rattle.abs_cells.proofs.packed.all_among.Given as goal

abbrev pub invariant-loop-a : goal.invariant-loop-a
invariant-loop-a l = (a : ℕ) → a < l.a
    → IsRowAmong (hit l.some.slots.items l.some.words.items) (hit l.others.slots.items l.others.words.items) a
