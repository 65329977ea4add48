use Rattle.std.proofs.Common.{◌≡◌, drop}
use Rattle.its_call.specs.its_search.inner.Following.{bound_from}
use Rattle.its_call.proofs.its_search.ranking.bound_of.Given as goal

abbrev pub invariant-loop-n : goal.invariant-loop-n
invariant-loop-n l = bound_from l.form l.n (drop l.n l.rows) ≡ bound_from l.form 0 l.rows
