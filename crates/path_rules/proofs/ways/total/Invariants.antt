use Rattle.std.proofs.Common.{◌≡◌, drop, get_or}
use Rattle.path_rules.specs.inner.Ways.{counted_on}
use Rattle.path_rules.proofs.ways.total.Given as goal

abbrev pub invariant-loop-cut : goal.invariant-loop-cut
invariant-loop-cut l = counted_on (λ cut. get_or l.counts cut 0) l.count (drop l.cut-index l.cuts) ≡ counted_on
    (λ cut. get_or l.counts cut 0) 0 l.cuts
