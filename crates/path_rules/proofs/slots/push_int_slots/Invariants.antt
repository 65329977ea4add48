use Rattle.std.proofs.Common.{◌≡◌, ◌++◌, map, drop}
use Rattle.abs_cells.specs.Cells.{is_int}
use Rattle.path_rules.specs.Rules.{int_slot}
use Rattle.path_rules.specs.inner.Sizing.{sized}
use Rattle.path_rules.proofs.Finding.{ids_in_cells}
use Rattle.path_rules.proofs.slots.push_int_slots.Given as goal

abbrev pub invariant-loop-id : goal.invariant-loop-id
invariant-loop-id g l =
    l.slots ++ map (int_slot l.stop.first (sized l.stop.node.state)) (ids_in_cells is_int (drop l.id-index l.stop.node.state.cells))
    ≡ l.initial.slots ++ map (int_slot l.stop.first (sized l.stop.node.state)) (ids_in_cells is_int l.stop.node.state.cells)
