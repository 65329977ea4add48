use Rattle.std.proofs.Common.{◌≡◌, drop}
use Rattle.path_rules.specs.Successors.{most_of}
use Rattle.path_rules.proofs.counts.above.Given as goal

abbrev pub invariant-loop-rank : goal.invariant-loop-rank
invariant-loop-rank l = most_of l.most (drop l.rank-index l.ranks) ≡ most_of 0 l.ranks
