use Rattle.std.proofs.Common.{◌≡◌, drop}
use Rattle.abs_cells.specs.Cells.{cell_in}
use Rattle.abs_expand.proofs.making.changed_one.Given as goal

abbrev pub invariant-loop-other : goal.invariant-loop-other
invariant-loop-other l = cell_in (drop l.other-index l.changed) l.id ≡ cell_in l.changed l.id
