use Rattle.std.proofs.Common.{◌≡◌, ℕ, ◌<◌, ◌≤◌, false, not}
use Rattle.abs_cells.specs.IdSets.{has_id}
use Rattle.abs_cells.proofs.checks.outside.Given as goal

abbrev pub invariant-loop-id : goal.invariant-loop-id
invariant-loop-id l = ((n : ℕ) → n < l.id → has_id l.others n ≡ not (has_id l.set n)) × ((n : ℕ) → l.id ≤ n → has_id l.others n ≡ false)
