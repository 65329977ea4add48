use Rattle.std.proofs.Common.{◌<◌, ℕ, List, [], ◌∷◌, sym, subst, All}
use Rattle.std.proofs.lemmas.Result.{IfOk-weaker}
use Rattle.abs_cells.specs.declared.cells.Cell.{Cell}
use Rattle.abs_heap.specs.Names.{name_in}
use Rattle.abs_heap.proofs.Merging.{id_low, named_low, merged_given}
use Rattle.abs_heap.proofs.equals.merged_state.Goals as goal

pub put_cell-requires-clause-low : goal.put_cell-requires-clause-low
put_cell-requires-clause-low g c = id_low c.args.state.now.cells c.args.stays c.args.cell.now c.requires.good.rising c.requires.cell

pub put_cells-requires-clause-low : goal.put_cells-requires-clause-low
put_cells-requires-clause-low g c = subst
    (λ (cs : List (ℕ × Cell)). All (λ x. name_in ((c.args.goes, c.args.stays) ∷ []) x.0 < 2048) cs) (sym c.cells.ensures)
    (named_low c.args.goes c.args.stays c.args.state.now.cells c.requires.good.rising
    (id_low c.args.state.now.cells c.args.stays c.args.cell.now c.requires.good.rising c.requires.cell))

pub returns : goal.returns
returns g c = IfOk-weaker c.whole.result _ _
    (λ child is. merged_given (g.T.Types.sub c.args.types.now) c.args.state.now c.args.stays c.args.goes c.args.cell.now
    c.args.other.now _ _ _ _ _ _ _ _ _ _ _ _ child c.requires.differ c.requires.cell c.requires.other c.in_ok-merged.ensures
    c.in_ok-named_cell.ensures c.new-cells.ensures.items c.in_ok-put_cell.ensures c.cells.ensures c.in_ok-put_cells.ensures
    c.from_vec-cells.ensures c.as_slice-list.ensures c.eq.ensures c.share.ensures c.in_ok-eq.ensures c.in_ok-share.ensures is)
    c.whole.ensures
