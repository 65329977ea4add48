use Rattle.std.proofs.Common.{◌∙◌, ◌<◌, List, length, sym, ap, subst}
use Rattle.std.specs.Prelude.{slice_set}
use Rattle.term_graph.specs.Graphs.{GraphNode, left_by}
use Rattle.term_graph.proofs.Leaving.{set_is_left}
use Rattle.term_graph.proofs.graphs.Graph.set_by.Goals as goal

pub returns : goal.returns
returns g c =
    let low = subst (λ (nodes : List GraphNode). c.args.n < length nodes) (sym c.self.view_is) c.requires in
    ap (λ (node : GraphNode). slice_set c.self.inside.nodes c.args.n node) c.set_by.ensures
    ∙ set_is_left c.self.inside.nodes c.args.n c.at_mut.result.now c.args.by low c.at_mut.ensures.item
    ∙ ap (λ (nodes : List GraphNode). left_by nodes c.args.n c.args.by) c.self.view_is
