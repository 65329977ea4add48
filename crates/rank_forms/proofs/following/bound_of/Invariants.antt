use Rattle.std.proofs.Common.{◌≡◌, drop}
use Rattle.rank_forms.specs.inner.Following.{bound_from}
use Rattle.rank_forms.proofs.following.bound_of.Given as goal

abbrev pub invariant-loop-n : goal.invariant-loop-n
invariant-loop-n l = bound_from l.negative l.start l.n (drop l.n l.rows) ≡ bound_from l.negative l.start 0 l.rows
