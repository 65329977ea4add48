use Rattle.rank_search.specs.inner.Candidates.{NoneOfPair}
use Rattle.rank_search.proofs.candidates.of_pair.Given as goal

abbrev pub invariant-loop-n : goal.invariant-loop-n
invariant-loop-n l = NoneOfPair l.table l.one l.other l.n
