use Rattle.std.proofs.Common.{◌≡◌, ℕ, ◌<◌, false}
use Rattle.rank_search.specs.inner.Candidates.{ranks_by, multiple_of}
use Rattle.rank_search.proofs.candidates.with_times.Given as goal

abbrev pub invariant-loop-k : goal.invariant-loop-k
invariant-loop-k l = (k : ℕ) → k < l.k → ranks_by (record { one = l.one; times = l.times; other = l.other; more = multiple_of k })
    l.table ≡ false
