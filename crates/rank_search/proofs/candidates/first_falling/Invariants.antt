use Rattle.rank_search.specs.inner.Candidates.{NoFall}
use Rattle.rank_search.proofs.candidates.first_falling.Given as goal

abbrev pub invariant-loop-one : goal.invariant-loop-one
invariant-loop-one l = NoFall l.weak l.strict l.one
