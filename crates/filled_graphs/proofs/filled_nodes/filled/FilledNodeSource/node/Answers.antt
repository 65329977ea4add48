use Rattle.std.proofs.Common.{◌<◌, ◌∙◌, List, length, Some, slice_get, sym, ap, subst}
use Rattle.term_graph.specs.Graphs.{GraphNode}
use Rattle.filled_graphs.proofs.Knowing.{by_given, node_given}
use Rattle.filled_graphs.proofs.Putting.{known_there}
use Rattle.filled_graphs.proofs.filled_nodes.filled.FilledNodeSource.node.Goals as goal

pub state_of-requires-clause-kept : goal.state_of-requires-clause-kept
state_of-requires-clause-kept g c = c.self.invariant.kept

pub by-requires : goal.by-requires
by-requires g c = known_there _ _ c.self.inside.ground.known c.self.inside.ground.filling.0 c.self.inside.ground.filling.1
    c.self.inside.ground.few c.args.n (subst (λ (nodes : List GraphNode). c.args.n < length nodes) (sym c.self.view_is) c.requires)

pub returns-clause-node : goal.returns-clause-node
returns-clause-node g c =
    let there = subst (λ (nodes : List GraphNode). c.args.n < length nodes) (sym c.self.view_is) c.requires in
    ap (λ (nodes : List GraphNode). slice_get nodes c.args.n) (sym c.self.view_is)
    ∙ node_given c.self.inside.ground.filling.0 c.args.n c.in_ok-state.state c.in_ok-by.by c.in_ok-state.ensures.state
    (by_given _ _ c.self.inside.ground.known c.self.inside.ground.filling.0 c.self.inside.ground.filling.1 c.args.n c.in_ok-by.by
    there c.in_ok-by.ensures)
    ∙ ap Some (sym c.new.ensures)
