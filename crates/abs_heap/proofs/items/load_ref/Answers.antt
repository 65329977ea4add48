use Rattle.std.proofs.Common.{true, refl}
use Rattle.abs_reach.proofs.Room.{has_cell_low}
use Rattle.abs_cells.proofs.Checking.{has_cell_to}
use Rattle.abs_heap.proofs.items.load_ref.Goals as goal

pub item_child-requires-clause-low : goal.item_child-requires-clause-low
item_child-requires-clause-low g c = has_cell_low c.args.state.now.cells c.args.k c.requires.good.rising
    (has_cell_to (λ _. true) c.args.state.now c.args.k (record { cell = c.requires.array.cell; is = c.requires.array.is; sort_is = refl }))
