use Rattle.std.proofs.Common.{◌≡◌, ◌-◌, length}
use Rattle.std.specs.Prelude.{slice_get}
use Rattle.abs_cells.specs.PackedBits.{hit, pairs_in, pairs_from}
use Rattle.abs_cells.proofs.packed.nth_pair.Given as goal

abbrev pub invariant-loop-a : goal.invariant-loop-a
invariant-loop-a l = slice_get (pairs_in l.packed.slots.items l.packed.words.items) l.fn.n ≡ slice_get
    (pairs_from (hit l.packed.slots.items l.packed.words.items) l.a (length l.packed.slots.items - l.a)) l.left
