use Rattle.std.proofs.Common.{◌≡◌, ◌++◌, drop}
use Rattle.std.specs.List.{flat_map}
use Rattle.term_graph.specs.Edges.{id_after, is_size_variable}
use Rattle.path_rules.specs.Rules.{rows_of_size, variable_of}
use Rattle.path_rules.specs.Sizing.{size_at}
use Rattle.path_rules.proofs.Finding.{ids_in_cells}
use Rattle.path_rules.proofs.legs.push_child_sizes.Given as goal

abbrev pub invariant-loop-id : goal.invariant-loop-id
invariant-loop-id g l =
    l.rows ++ flat_map (λ id. rows_of_size (variable_of l.stop.first l.stop.node.state id) l.after.first l.after.node.state
    (size_at l.after.node.state (id_after l.merged id))) (ids_in_cells is_size_variable (drop l.id-index l.stop.node.state.cells))
    ≡ l.initial.rows ++ flat_map (λ id. rows_of_size (variable_of l.stop.first l.stop.node.state id) l.after.first
    l.after.node.state (size_at l.after.node.state (id_after l.merged id))) (ids_in_cells is_size_variable l.stop.node.state.cells)
