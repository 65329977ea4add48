use Rattle.std.proofs.Common.{◌≡◌, ℕ, take}
use Rattle.abs_cells.specs.Cells.{is_reference, is_of_sort, cell_in}
use Rattle.abs_cells.specs.IdSets.{has_id}
use Rattle.abs_expand.proofs.making.references.Given as goal

abbrev pub invariant-loop-id : goal.invariant-loop-id
invariant-loop-id l = (n : ℕ) → has_id l.ids n ≡ is_of_sort is_reference (cell_in (take l.id-index l.cells) n)
