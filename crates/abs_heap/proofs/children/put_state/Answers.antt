use Rattle.std.proofs.Common.{◌<◌, ℕ, List, [], map, sym, subst, All}
use Rattle.std.proofs.lemmas.Result.{on_ok_weaker}
use Rattle.abs_cells.specs.declared.cells.Cell.{Cell}
use Rattle.abs_heap.specs.Names.{name_in}
use Rattle.abs_heap.specs.inner.Building.{IsOver, named_entry}
use Rattle.abs_heap.proofs.Placing.{cells_low}
use Rattle.abs_heap.proofs.Giving.{over_unnamed}
use Rattle.abs_heap.proofs.children.put_state.Goals as goal

pub put_cells-requires-clause-low : goal.put_cells-requires-clause-low
put_cells-requires-clause-low g c = subst (λ (cs : List (ℕ × Cell)). All (λ x. name_in [] x.0 < 2048) cs) (sym c.cells.ensures)
    (cells_low c.args.state.now.cells c.requires.good.rising)

pub returns : goal.returns
returns g c = on_ok_weaker c.put_cells.result
    (λ h. over_unnamed _ _ _
    (subst (λ (cs : List (ℕ × Cell)). IsOver c.args.cells.now.items (map (named_entry []) cs) c.put_cells.new.cells.items)
    c.cells.ensures h)) c.put_cells.ensures
