use Rattle.std.proofs.Common.{◌≡◌, ◌++◌, map, pos, [], ◌∷◌, drop}
use Rattle.term_graph.specs.Edges.{is_size_variable}
use Rattle.path_rules.specs.Rules.{at_least_zero, variable_of}
use Rattle.path_rules.proofs.Finding.{ids_in_cells}
use Rattle.path_rules.proofs.stops.push_size_bounds.Given as goal

abbrev pub invariant-loop-id : goal.invariant-loop-id
invariant-loop-id g l =
    l.rows ++ map (λ id. at_least_zero ((variable_of l.stop.first l.stop.node.state id, pos 1) ∷ []) (pos 0))
    (ids_in_cells is_size_variable (drop l.id-index l.stop.node.state.cells))
    ≡ l.initial.rows ++ map (λ id. at_least_zero ((variable_of l.stop.first l.stop.node.state id, pos 1) ∷ []) (pos 0))
    (ids_in_cells is_size_variable l.stop.node.state.cells)
