use Rattle.std.proofs.Common.{◌≡◌, ℕ, ◌<◌, true}
use Rattle.abs_cells.specs.PackedBits.{hit}
use Rattle.abs_cells.proofs.packed.row_among.Given as goal

abbrev pub invariant-loop-b : goal.invariant-loop-b
invariant-loop-b l = (b : ℕ) → l.a < b → b < l.b → hit l.some.slots.items l.some.words.items l.a b ≡ true
    → hit l.others.slots.items l.others.words.items l.a b ≡ true
