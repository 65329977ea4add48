use Rattle.std.proofs.Common.{ℕ, List, sym, ap, ◌∙◌}
use Rattle.std.proofs.lemmas.Option.{none-some}
use Rattle.abs_cells.specs.declared.cells.Cell.{Cell}
use Rattle.abs_cells.specs.Cells.{cell_in}
use Rattle.abs_heap.proofs.Merging.{id_low, pair_there}
use Rattle.abs_heap.proofs.equals.refine_equal.Goals as goal

pub equal_children-requires-clause-low : goal.equal_children-requires-clause-low
equal_children-requires-clause-low g c =
    let h = pair_there c.args.state.now c.args.x c.args.y c.requires.good c.requires.pair c.requires.differ in (
      id_low c.args.state.now.cells c.args.x h.0.cell c.requires.good.rising h.0.is,
      id_low c.args.state.now.cells c.args.y h.1.cell c.requires.good.rising h.1.is,
    )

pub unreachable-requires : goal.unreachable-requires
unreachable-requires g c =
    let h = pair_there c.args.state.now c.args.x c.args.y c.requires.good c.requires.pair c.requires.differ in
    none-some h.1.cell (sym c.in-None-cell_of.ensures ∙ ap (λ (cs : List (ℕ × Cell)). cell_in cs c.args.y) c.cells-in-Some.ensures
    ∙ h.1.is)

pub unreachable-requires-in-None : goal.unreachable-requires-in-None
unreachable-requires-in-None g c =
    let h = pair_there c.args.state.now c.args.x c.args.y c.requires.good c.requires.pair c.requires.differ in
    none-some h.0.cell (sym c.in-None.ensures ∙ ap (λ (cs : List (ℕ × Cell)). cell_in cs c.args.x) c.cells.ensures ∙ h.0.is)
