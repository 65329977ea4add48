use Rattle.std.proofs.Common.{◌≡◌, ℕ, ◌<◌, true}
use Rattle.abs_cells.specs.IdSets.{has_id}
use Rattle.abs_cells.specs.inner.PackedRows.{RowMeets}
use Rattle.abs_cells.proofs.packed.side_meets.Given as goal

abbrev pub invariant-loop-slot : goal.invariant-loop-slot
invariant-loop-slot l = (s : ℕ) → s < l.slot → has_id l.xs s ≡ true → RowMeets l.words s l.ys → ⊥
