use Rattle.std.proofs.Common.{sym}
use Rattle.abs_heap.proofs.Untold.{untold_left}
use Rattle.abs_heap.proofs.compatible.are_compatible.Goals as goal

pub returns-in-None : goal.returns-in-None
returns-in-None g c = sym (untold_left _ _ _ _ _ (g.met.T.Types.laws c.args.types.now) _ _ _ _ c.in-None.ensures)
