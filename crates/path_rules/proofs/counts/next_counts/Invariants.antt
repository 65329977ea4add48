use Rattle.std.proofs.Common.{◌≡◌, map, take}
use Rattle.path_rules.specs.inner.Ways.{count_row}
use Rattle.path_rules.proofs.counts.next_counts.Given as goal

abbrev pub invariant-loop-row : goal.invariant-loop-row
invariant-loop-row l = l.next ≡ map (count_row l.marks l.counts) (take l.row-index l.lists)
