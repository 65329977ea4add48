use Rattle.std.proofs.Common.{◌≤◌, List, length, sym, subst}
use Rattle.term_graph.specs.Graphs.{GraphNode}
use Rattle.prove_core.proofs.searching.of_graph.Goals as goal

pub returns-in-Ok : goal.returns-in-Ok
returns-in-Ok g c = λ limit few. c.of_links.ensures limit
    (subst (λ (nodes : List GraphNode). length nodes ≤ limit) (sym c.links_of.ensures.same) few)
