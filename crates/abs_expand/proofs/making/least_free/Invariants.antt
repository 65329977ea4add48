use Rattle.std.proofs.Common.{◌≡◌}
use Rattle.abs_expand.proofs.CellLists.{AreCounted}
use Rattle.abs_expand.proofs.making.least_free.Given as goal

abbrev pub invariant-loop-id : goal.invariant-loop-id
invariant-loop-id l = record {
  at : l.free ≡ l.id-index;
  counted : AreCounted l.cells l.id-index;
}
