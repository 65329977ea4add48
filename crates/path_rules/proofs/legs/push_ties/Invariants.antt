use Rattle.std.proofs.Common.{◌≡◌, ◌++◌, map, drop}
use Rattle.std.specs.Prelude.{filter}
use Rattle.abs_cells.specs.Cells.{is_int}
use Rattle.path_rules.specs.Rules.{has_int, tie, variable_of}
use Rattle.path_rules.proofs.Finding.{ids_in_cells}
use Rattle.path_rules.proofs.legs.push_ties.Given as goal

abbrev pub invariant-loop-id : goal.invariant-loop-id
invariant-loop-id g l =
    l.rows ++ map (λ id. tie (variable_of l.stop.first l.stop.node.state id) (variable_of l.after.first l.after.node.state id))
    (filter (has_int l.after.node.state) (ids_in_cells is_int (drop l.id-index l.stop.node.state.cells)))
    ≡ l.initial.rows ++ map
    (λ id. tie (variable_of l.stop.first l.stop.node.state id) (variable_of l.after.first l.after.node.state id))
    (filter (has_int l.after.node.state) (ids_in_cells is_int l.stop.node.state.cells))
