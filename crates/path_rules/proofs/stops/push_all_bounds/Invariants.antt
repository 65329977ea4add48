use Rattle.std.proofs.Common.{◌≡◌, ◌++◌, drop}
use Rattle.std.specs.List.{flat_map}
use Rattle.path_rules.specs.Rules.{bounds_of, variable_of}
use Rattle.path_rules.proofs.Bounding.{AreBoundedBelow}
use Rattle.path_rules.proofs.stops.push_all_bounds.Given as goal

abbrev pub invariant-loop-id : goal.invariant-loop-id
invariant-loop-id g l = record {
  rows :
      l.rows ++ flat_map (λ c. bounds_of (variable_of l.stop.first l.stop.node.state c.0) c.1) (drop l.id-index l.stop.node.state.cells)
      ≡ l.initial.rows ++ flat_map (λ c. bounds_of (variable_of l.stop.first l.stop.node.state c.0) c.1) l.stop.node.state.cells;
  bounded : AreBoundedBelow l.stop.node.state.cells l.id-index;
}
