use Rattle.abs_cells.specs.PackedBits.{pairs_in, ArePacked}
use Rattle.abs_cells.specs.inner.PackedRows.{IsKeptTo}
use Rattle.abs_cells.proofs.packed.keep_pairs.Given as goal

abbrev pub invariant-loop-a : goal.invariant-loop-a
invariant-loop-a l = record {
  packed : ArePacked l.packed.slots.items l.packed.count l.packed.words.items;
  pairs : IsKeptTo l.ids (pairs_in l.initial.packed.slots.items l.initial.packed.words.items)
      (pairs_in l.packed.slots.items l.packed.words.items) l.a;
}
