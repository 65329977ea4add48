use Rattle.number_graphs.proofs.Counting.{AreRanked}
use Rattle.number_graphs.proofs.ranking.exact_ranks.Given as goal

abbrev pub invariant-loop-place : goal.invariant-loop-place
invariant-loop-place l = AreRanked l.graph l.ranks l.place
