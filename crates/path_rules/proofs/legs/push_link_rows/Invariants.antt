use Rattle.std.proofs.Common.{◌≡◌, ◌++◌, map, drop}
use Rattle.path_rules.specs.Rules.{link_row, variable_of}
use Rattle.path_rules.proofs.legs.push_link_rows.Given as goal

abbrev pub invariant-loop-row : goal.invariant-loop-row
invariant-loop-row g l =
    l.rows ++ map (link_row (variable_of l.stop.first l.stop.node.state) (variable_of l.after.first l.after.node.state))
    (drop l.row-index l.link)
    ≡ l.initial.rows ++ map (link_row (variable_of l.stop.first l.stop.node.state) (variable_of l.after.first l.after.node.state)) l.link
