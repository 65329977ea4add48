use Rattle.std.proofs.Common.{◌≡◌, ℕ, take}
use Rattle.std.specs.List.{list_any}
use Rattle.abs_cells.specs.Cells.{is_hazy}
use Rattle.abs_cells.specs.IdSets.{has_id}
use Rattle.abs_heap.proofs.Choosing.{chosen}
use Rattle.abs_heap.proofs.renaming.hazy_ids.Given as goal

abbrev pub invariant-loop-id : goal.invariant-loop-id
invariant-loop-id l = (n : ℕ) → has_id l.ids n ≡ list_any (chosen is_hazy l.set n) (take l.id-index l.cells)
