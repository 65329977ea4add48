use Rattle.std.proofs.Common.{◌≡◌, map, take}
use Rattle.term_graph.specs.Graphs.{GraphPart}
use Rattle.filled_graphs.specs.inner.Noting.{unnamed}
use Rattle.filled_graphs.proofs.origins.all_unnamed.Given as goal

abbrev pub invariant-loop-number : goal.invariant-loop-number
invariant-loop-number g l = l.origins ≡ map (λ (part : GraphPart). unnamed part.state) (take l.number (g.S.PartSource.parts l.parts))
