use Rattle.std.proofs.Common.{◌≡◌, ℕ, take}
use Rattle.std.specs.List.{list_any}
use Rattle.abs_cells.specs.Cells.{are_compatible}
use Rattle.abs_cells.specs.IdSets.{has_id}
use Rattle.abs_heap.proofs.Choosing.{chosen}
use Rattle.abs_heap.proofs.compatible.compatible_ids.Given as goal

abbrev pub invariant-loop-other : goal.invariant-loop-other
invariant-loop-other g l = (n : ℕ) → has_id l.ids n ≡ list_any (chosen (are_compatible (g.T.Types.sub l.types) l.cell) l.others n)
    (take l.other-index l.cells)
