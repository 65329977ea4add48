use Rattle.std.proofs.Common.{◌≡◌, ℕ, ◌<◌, false, pos}
use Rattle.rank_search.specs.inner.Candidates.{ranks_by, multiple_of}
use Rattle.rank_search.proofs.candidates.one_int.Given as goal

abbrev pub invariant-loop-one : goal.invariant-loop-one
invariant-loop-one l = (i n : ℕ) → i < l.one → n < 2 → ranks_by (record { one = i; times = multiple_of n; other = i; more = pos 0 })
    l.table ≡ false
