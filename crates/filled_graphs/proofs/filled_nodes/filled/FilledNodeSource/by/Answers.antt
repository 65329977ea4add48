use Rattle.std.proofs.Common.{◌≡◌, ◌<◌, List, length, Some, slice_get, sym, subst}
use Rattle.std.specs.Option.{option_map}
use Rattle.term_graph.specs.Graphs.{GraphNode}
use Rattle.filled_graphs.proofs.Knowing.{by_given}
use Rattle.filled_graphs.proofs.Putting.{known_there}
use Rattle.filled_graphs.proofs.filled_nodes.filled.FilledNodeSource.by.Goals as goal

pub by-requires : goal.by-requires
by-requires g c = known_there _ _ c.self.inside.ground.known c.self.inside.ground.filling.0 c.self.inside.ground.filling.1
    c.self.inside.ground.few c.args.n (subst (λ (nodes : List GraphNode). c.args.n < length nodes) (sym c.self.view_is) c.requires)

pub returns-clause-by : goal.returns-clause-by
returns-clause-by g c = subst
    (λ (nodes : List GraphNode). option_map (λ (node : GraphNode). node.by) (slice_get nodes c.args.n) ≡ Some c.in_ok-by.by)
    c.self.view_is
    (by_given _ _ c.self.inside.ground.known c.self.inside.ground.filling.0 c.self.inside.ground.filling.1 c.args.n c.in_ok-by.by
    (subst (λ (nodes : List GraphNode). c.args.n < length nodes) (sym c.self.view_is) c.requires) c.in_ok-by.ensures)
