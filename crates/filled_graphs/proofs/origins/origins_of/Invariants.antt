use Rattle.filled_graphs.specs.inner.Noting.{AreNoted}
use Rattle.filled_graphs.proofs.origins.origins_of.Given as goal

abbrev pub invariant-loop-number : goal.invariant-loop-number
invariant-loop-number g l = AreNoted (g.S.PartSource.parts l.parts) l.number 0 l.origins
