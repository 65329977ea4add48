use Rattle.std.proofs.Common.{◌≡◌, ℕ, ◌<◌, false, pos}
use Rattle.rank_search.specs.inner.Candidates.{ranks_by, multiple_of}
use Rattle.rank_search.proofs.candidates.of_one.Given as goal

abbrev pub invariant-loop-n : goal.invariant-loop-n
invariant-loop-n l = (n : ℕ) → n < l.n → ranks_by (record { one = l.one; times = multiple_of n; other = l.one; more = pos 0 })
    l.table ≡ false
