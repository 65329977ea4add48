use Rattle.std.proofs.Common.{All}
use Rattle.search_tries.proofs.due.first_found.Given as goal

abbrev pub invariant-loop-u : goal.invariant-loop-u
invariant-loop-u g l = All (g.G.Grower.good (g.G.Grower.meaning l.grower)) l.states
