use Rattle.rank_search.specs.inner.Candidates.{NoneWithOne}
use Rattle.rank_search.proofs.candidates.with_one.Given as goal

abbrev pub invariant-loop-other : goal.invariant-loop-other
invariant-loop-other l = NoneWithOne l.table l.one l.other
