use Rattle.std.proofs.Common.{◌≡◌, map, take}
use Rattle.path_rules.specs.Successors.{inner_row}
use Rattle.path_rules.proofs.successors.inner_lists.Given as goal

abbrev pub invariant-loop-row : goal.invariant-loop-row
invariant-loop-row l = l.inner ≡ map (inner_row l.marks) (take l.row-index l.lists)
