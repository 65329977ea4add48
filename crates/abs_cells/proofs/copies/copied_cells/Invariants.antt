use Rattle.std.proofs.Common.{◌≡◌, take}
use Rattle.abs_cells.proofs.copies.copied_cells.Given as goal

abbrev pub invariant-loop-id : goal.invariant-loop-id
invariant-loop-id l = l.copy ≡ take l.id-index l.cells
