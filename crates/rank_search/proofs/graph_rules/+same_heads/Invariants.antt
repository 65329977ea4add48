use Rattle.std.proofs.Common.{length}
use Rattle.rank_search.proofs.graph_rules.+same_heads.Given as goal

abbrev pub decreases-same_heads : goal.decreases-same_heads
decreases-same_heads l = length l.one.now
