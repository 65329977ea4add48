use Rattle.std.proofs.Common.{◌≡◌, map}
use Rattle.term_graph.specs.Graphs.{GraphChild}
use Rattle.prove_core.proofs.grower.states_of.Given as goal

abbrev pub invariant-loop-child : goal.invariant-loop-child
invariant-loop-child g l = l.states ≡ map (λ (c : GraphChild). c.state) l.yielded
