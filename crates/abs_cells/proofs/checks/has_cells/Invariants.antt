use Rattle.std.proofs.Common.{◌≡◌, true, take}
use Rattle.std.specs.List.{list_all}
use Rattle.abs_cells.specs.IdSets.{has_id}
use Rattle.abs_cells.specs.Cells.{ids_in}
use Rattle.abs_cells.proofs.checks.has_cells.Given as goal

abbrev pub invariant-loop-id : goal.invariant-loop-id
invariant-loop-id l = list_all (λ c. list_all (has_id l.set) (ids_in c.1)) (take l._id-index l.cells) ≡ true
