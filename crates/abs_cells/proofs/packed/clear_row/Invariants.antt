use Rattle.abs_cells.specs.PackedBits.{pairs_in, ArePacked}
use Rattle.abs_cells.specs.inner.PackedRows.{IsCleared}
use Rattle.abs_cells.proofs.packed.clear_row.Given as goal

abbrev pub invariant-loop-b : goal.invariant-loop-b
invariant-loop-b l = record {
  packed : ArePacked l.packed.slots.items l.packed.count l.packed.words.items;
  pairs : IsCleared (pairs_in l.initial.packed.slots.items l.initial.packed.words.items)
      (pairs_in l.packed.slots.items l.packed.words.items) l.a l.b;
}
