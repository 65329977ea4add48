use Rattle.std.proofs.Common.{◌≡◌, ◌-◌, ◌++◌, length}
use Rattle.abs_cells.specs.PackedBits.{hit, pairs_from, pairs_in}
use Rattle.abs_cells.proofs.packed.list_pairs.Given as goal

abbrev pub invariant-loop-a : goal.invariant-loop-a
invariant-loop-a l = l.list.items ++ pairs_from (hit l.packed.slots.items l.packed.words.items) l.a
    (length l.packed.slots.items - l.a) ≡ pairs_in l.packed.slots.items l.packed.words.items
