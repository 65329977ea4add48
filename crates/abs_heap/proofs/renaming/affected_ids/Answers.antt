use Rattle.std.proofs.Common.{true}
use Rattle.abs_cells.proofs.Checking.{has_cell_to}
use Rattle.abs_reach.proofs.Room.{has_cell_low}
use Rattle.abs_heap.proofs.Affected.{affected_is}
use Rattle.abs_heap.proofs.renaming.affected_ids.Goals as goal

pub put_if-requires : goal.put_if-requires
put_if-requires g c = has_cell_low c.args.state.now.cells c.args.k c.requires.good.rising
    (has_cell_to (λ _. true) c.args.state.now c.args.k c.requires.there)

pub returns : goal.returns
returns g c n = affected_is c.args.state.now c.args.k n _ _ _ _ _ _ _ c.cells-cells.ensures c.cells-cells.ensures c.share.ensures
    (c.partners.ensures n) (c.hazy_ids-ids.ensures n) c.is_array_in-array.ensures (c.put_if.ensures n)
