use Rattle.std.proofs.Common.{◌≡◌, drop}
use Rattle.bound_check.specs.inner.Walking.{most_from}
use Rattle.bound_check.proofs.walks.most_from.Given as goal

abbrev pub invariant-loop-cut : goal.invariant-loop-cut
invariant-loop-cut l = most_from l.most l.best (drop l.cut-index l.cuts) ≡ most_from l.most 0 l.cuts
