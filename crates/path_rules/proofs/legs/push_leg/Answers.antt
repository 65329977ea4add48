use Rattle.std.proofs.Common.{◌∙◌, ap, sym}
use Rattle.term_graph.specs.Graphs.{GraphNode}
use Rattle.path_rules.proofs.EdgeRows.{legs_instance}
use Rattle.path_rules.proofs.legs.push_leg.Goals as goal

pub returns-in-Instance : goal.returns-in-Instance
returns-in-Instance g c =
    legs_instance c.args.stop.now.first c.args.stop.now.node.state c.args.stop.now.node.by c.in-Instance.target c.in-Instance.map
    c.as_slice.result.now c.args.links.now c.args.place c.args.after.now.first c.args.after.now.node.state
    c.args.rows.now c.push_instance.new.rows c.push_instance.result
    (sym (c.by.ensures ∙ ap (λ (n : GraphNode). n.by) c.node.ensures) ∙ c.in-Instance.is) c.as_slice.ensures c.push_instance.ensures
