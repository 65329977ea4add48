use Rattle.std.proofs.Common.{length}
use Rattle.rank_search.proofs.graph_rules.+same_places.Given as goal

abbrev pub decreases-same_places : goal.decreases-same_places
decreases-same_places l = length l.one.now
