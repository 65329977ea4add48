use Rattle.std.proofs.Common.{◌≡◌, drop, get_or}
use Rattle.path_rules.specs.inner.Ways.{picked}
use Rattle.path_rules.proofs.ways.picked_cut.Given as goal

abbrev pub invariant-loop-place : goal.invariant-loop-place
invariant-loop-place l = picked (λ cut. get_or l.counts cut 0) l.place (drop l.place l.cuts) l.left ≡ picked
    (λ cut. get_or l.counts cut 0) 0 l.cuts l.number
