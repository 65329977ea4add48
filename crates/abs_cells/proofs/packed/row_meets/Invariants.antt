use Rattle.std.proofs.Common.{◌≡◌, ℕ, ◌+◌, ◌*◌, ◌<◌, true}
use Rattle.abs_cells.specs.IdSets.{has_bit, has_id}
use Rattle.abs_cells.specs.PackedBits.{row_start}
use Rattle.abs_cells.proofs.packed.row_meets.Given as goal

abbrev pub invariant-loop-n : goal.invariant-loop-n
invariant-loop-n l = (t : ℕ) → t < 64 * l.n → has_bit l.words (64 * row_start l.slot + t) ≡ true → has_id l.mask t ≡ true → ⊥
