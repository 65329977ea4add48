use Rattle.std.proofs.Common.{All}
use Rattle.search_tries.proofs.building.grow.Given as goal

abbrev pub invariant-growths : goal.invariant-growths
invariant-growths g l = All (g.G.Grower.good (g.G.Grower.meaning l.grower)) l.states
