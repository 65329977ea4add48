use Rattle.std.proofs.Common.{true, refl}
use Rattle.abs_reach.proofs.Room.{has_cell_low}
use Rattle.abs_cells.proofs.Checking.{has_cell_to}
use Rattle.abs_heap.proofs.nulls.refine_null.Goals as goal

pub null_children-requires-clause-low : goal.null_children-requires-clause-low
null_children-requires-clause-low g c = has_cell_low c.args.state.now.cells c.args.x c.requires.good.rising
    (has_cell_to (λ _. true) c.args.state.now c.args.x (record { cell = _; is = c.requires.nullable.is; sort_is = refl }))
