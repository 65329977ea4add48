use Rattle.std.proofs.Common.{◌≡◌, drop}
use Rattle.bound_check.specs.inner.Walking.{best_on}
use Rattle.bound_check.proofs.walks.best_of.Given as goal

abbrev pub invariant-loop-place : goal.invariant-loop-place
invariant-loop-place l = best_on l.marks l.most l.own l.place l.best (drop l.place l.row) ≡ best_on l.marks l.most l.own 0 l.none l.row
