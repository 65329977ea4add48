use Rattle.std.proofs.Common.{◌≡◌, ℕ, take}
use Rattle.std.specs.List.{list_any}
use Rattle.abs_cells.specs.IdSets.{has_id}
use Rattle.abs_heap.specs.inner.Renaming.{is_named}
use Rattle.abs_heap.proofs.rewriting.names_among.Given as goal

abbrev pub invariant-loop-id : goal.invariant-loop-id
invariant-loop-id l = (n : ℕ) → has_id l.set n ≡ list_any (is_named l.names l.first l.second n) (take l.id-index l.cells)
