use Rattle.std.proofs.Common.{◌∙◌, ◌++◌, List, map, ap}
use Rattle.term_graph.specs.declared.links.LinkRow.{LinkRow}
use Rattle.path_rules.specs.Rules.{link_row, variable_of}
use Rattle.path_rules.proofs.EdgeRows.{rows_child}
use Rattle.path_rules.proofs.legs.push_child.Goals as goal

pub returns : goal.returns
returns g c =
    rows_child c.args.stop.now.first c.args.stop.now.node.state c.args.link.now c.args.after.now.first c.args.after.now.node.state
    c.args.rows.now c.push_ties.new.rows c.push_link_rows.new.rows c.push_child_sizes.new.rows
    c.push_child_sizes.result c.requires.rising c.in_ok-push_ties.ensures
    (c.in_ok-push_link_rows.ensures
    ∙ ap (λ (ls : List LinkRow). c.push_ties.new.rows ++ map
    (link_row (variable_of c.args.stop.now.first c.args.stop.now.node.state)
    (variable_of c.args.after.now.first c.args.after.now.node.state)) ls) c.as_slice.ensures)
    c.push_child_sizes.ensures
