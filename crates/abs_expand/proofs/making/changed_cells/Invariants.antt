use Rattle.std.proofs.Common.{◌≡◌, take}
use Rattle.abs_expand.specs.inner.Making.{changed_cells}
use Rattle.abs_expand.proofs.making.changed_cells.Given as goal

abbrev pub invariant-loop-id : goal.invariant-loop-id
invariant-loop-id l = l.copy ≡ changed_cells l.changed (take l.id-index l.cells)
