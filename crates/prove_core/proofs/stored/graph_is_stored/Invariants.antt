use Rattle.std.proofs.Common.{take}
use Rattle.std.specs.Prelude.{All}
use Rattle.prove_core.specs.Stored.{IsStored, IsStoredGraph}
use Rattle.prove_core.proofs.stored.graph_is_stored.Given as goal

abbrev pub invariant-loop-n : goal.invariant-loop-n
invariant-loop-n g l = IsStoredGraph (take l.n l.graph)
