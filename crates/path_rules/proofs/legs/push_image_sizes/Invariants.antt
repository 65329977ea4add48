use Rattle.std.proofs.Common.{◌≡◌, ◌++◌, drop}
use Rattle.std.specs.List.{flat_map}
use Rattle.abs_reach.specs.Instances.{image_in}
use Rattle.term_graph.specs.Edges.{is_size_variable}
use Rattle.path_rules.specs.Rules.{variable_of}
use Rattle.path_rules.specs.inner.Sizing.{rows_of_image}
use Rattle.path_rules.proofs.Finding.{ids_in_cells}
use Rattle.path_rules.proofs.legs.push_image_sizes.Given as goal

abbrev pub invariant-loop-id : goal.invariant-loop-id
invariant-loop-id g l =
    l.rows ++ flat_map (λ id. rows_of_image (variable_of l.target.first l.target.node.state id) l.stop.first l.stop.node.state
    (image_in l.entries id)) (ids_in_cells is_size_variable (drop l.id-index l.target.node.state.cells))
    ≡ l.initial.rows ++ flat_map (λ id. rows_of_image (variable_of l.target.first l.target.node.state id) l.stop.first
    l.stop.node.state (image_in l.entries id)) (ids_in_cells is_size_variable l.target.node.state.cells)
