use Rattle.rank_search.specs.inner.Candidates.{NoSum}
use Rattle.rank_search.proofs.candidates.sum_of_two.Given as goal

abbrev pub invariant-loop-one : goal.invariant-loop-one
invariant-loop-one l = NoSum l.table l.one l.count
