use Rattle.std.proofs.Common.{◌≡◌, map}
use Rattle.term_graph.specs.Graphs.{GraphChild}
use Rattle.graph_check.proofs.children.links_of.Given as goal

abbrev pub invariant-loop-child : goal.invariant-loop-child
invariant-loop-child g l = l.links ≡ map (λ (child : GraphChild). child.link) l.yielded
