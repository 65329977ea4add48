use Rattle.std.proofs.Common.{◌≡◌, ℕ, ◌==◌, ◌&&◌, take}
use Rattle.std.specs.List.{list_any}
use Rattle.abs_cells.specs.IdSets.{has_id}
use Rattle.abs_cells.specs.Cells.{sort_test}
use Rattle.abs_cells.proofs.checks.ids_of_sort.Given as goal

abbrev pub invariant-loop-id : goal.invariant-loop-id
invariant-loop-id l = (n : ℕ) → has_id l.ids n ≡ list_any (λ c. (c.0 == n) && sort_test l.sort c.1) (take l.id-index l.cells)
