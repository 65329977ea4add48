use Rattle.std.proofs.Common.{◌≡◌, drop}
use Rattle.path_rules.specs.inner.Ways.{picked, count_over}
use Rattle.path_rules.proofs.ways.picked_edge.Given as goal

abbrev pub invariant-loop-place : goal.invariant-loop-place
invariant-loop-place l = picked (count_over l.marks l.counts) l.place (drop l.place l.row) l.left ≡ picked
    (count_over l.marks l.counts) 0 l.row l.number
