use Rattle.std.proofs.Common.{◌≡◌, drop}
use Rattle.path_rules.specs.inner.Ways.{counted_on, count_over}
use Rattle.path_rules.proofs.counts.count_row.Given as goal

abbrev pub invariant-loop-to : goal.invariant-loop-to
invariant-loop-to l = counted_on (count_over l.marks l.counts) l.count (drop l.to-index l.row) ≡ counted_on
    (count_over l.marks l.counts) 0 l.row
