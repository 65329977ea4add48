use Rattle.std.proofs.Common.{◌≡◌, false, take}
use Rattle.abs_cells.specs.IdSets.{are_touched}
use Rattle.abs_cells.proofs.pairs.some_joins.Given as goal

abbrev pub invariant-loop-pair : goal.invariant-loop-pair
invariant-loop-pair l = are_touched l.x l.y (take l.pair-index l.pairs) ≡ false
