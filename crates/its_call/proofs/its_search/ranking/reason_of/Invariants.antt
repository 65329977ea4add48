use Rattle.std.proofs.Common.{◌≡◌, drop}
use Rattle.its_call.specs.its_search.inner.Following.{reason_from}
use Rattle.its_call.proofs.its_search.ranking.reason_of.Given as goal

abbrev pub invariant-loop-n : goal.invariant-loop-n
invariant-loop-n l = reason_from l.count l.term l.n (drop l.n l.rows) ≡ reason_from l.count l.term 0 l.rows
