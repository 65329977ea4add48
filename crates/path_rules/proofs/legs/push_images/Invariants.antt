use Rattle.std.proofs.Common.{◌≡◌, ◌++◌, drop}
use Rattle.std.specs.List.{flat_map}
use Rattle.abs_cells.specs.Cells.{is_int}
use Rattle.abs_reach.specs.Instances.{image_in}
use Rattle.path_rules.specs.Rules.{image_row, variable_of}
use Rattle.path_rules.specs.inner.Sizing.{sized}
use Rattle.path_rules.proofs.Finding.{ids_in_cells}
use Rattle.path_rules.proofs.legs.push_images.Given as goal

abbrev pub invariant-loop-id : goal.invariant-loop-id
invariant-loop-id g l =
    l.rows ++ flat_map (λ id. image_row l.stop.first (sized l.stop.node.state) (variable_of l.target.first l.target.node.state id)
    (image_in l.entries id)) (ids_in_cells is_int (drop l.id-index l.target.node.state.cells))
    ≡ l.initial.rows ++ flat_map
    (λ id. image_row l.stop.first (sized l.stop.node.state) (variable_of l.target.first l.target.node.state id)
    (image_in l.entries id)) (ids_in_cells is_int l.target.node.state.cells)
