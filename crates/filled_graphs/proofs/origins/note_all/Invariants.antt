use Rattle.std.proofs.Common.{◌≡◌, ◌≤◌, length, Some, slice_get, List}
use Rattle.term_graph.specs.declared.nodes.By.TheVariants.{Expand}
use Rattle.term_graph.specs.Graphs.{GraphPart}
use Rattle.filled_graphs.specs.Filling.{ways_of}
use Rattle.filled_graphs.specs.inner.Noting.{AreNoted}
use Rattle.filled_graphs.proofs.origins.note_all.Given as goal

abbrev pub invariant-loop-place : goal.invariant-loop-place
invariant-loop-place l = (parts : List GraphPart) → slice_get (ways_of parts) l.node ≡ Some (Expand l.named)
    → AreNoted parts l.node 0 l.initial.origins → AreNoted parts l.node l.place l.origins
