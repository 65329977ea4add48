use Rattle.std.proofs.Common.{◌∙◌, ◌<◌, ℕ, List, ap, sym, subst}
use Rattle.std.specs.List.{list_any}
use Rattle.std.proofs.lemmas.List.{take_all}
use Rattle.abs_cells.specs.declared.cells.Cell.{Cell}
use Rattle.abs_cells.specs.Cells.{are_compatible}
use Rattle.abs_cells.proofs.Checking.{id_is_low}
use Rattle.abs_heap.proofs.Choosing.{chosen, chosen_next, chosen_are}
use Rattle.abs_heap.proofs.compatible.compatible_ids.Goals as goal

pub put_if-requires : goal.put_if-requires
put_if-requires g c = subst (λ (x : ℕ × Cell). x.0 < 2048) (sym c.loop-other-item.is)
    (id_is_low 0 c.args.cells.now c.loop-other.other-index c.loop-other-item.result c.requires c.loop-other-test.true)

pub loop-other-preserved : goal.loop-other-preserved
loop-other-preserved g c n = chosen_next (are_compatible (g.T.Types.sub c.args.types.now) c.args.cell.now) c.args.others.now n
    c.loop-other.other-index c.loop-other-item.result c.args.cells.now _ _ _ c.loop-other-test.true c.loop-other-item.is
    c.is_wanted-wanted.ensures (c.loop-other.invariant n) (c.put_if.ensures n)

pub returns : goal.returns
returns g c n =
    c.loop-other.invariant n
    ∙ ap (λ (xs : List (ℕ × Cell)). list_any
    (chosen (are_compatible (g.T.Types.sub c.args.types.now) c.args.cell.now) c.args.others.now n) xs)
    (take_all c.loop-other.other-index c.args.cells.now c.loop-other-test.false)
    ∙ chosen_are (are_compatible (g.T.Types.sub c.args.types.now) c.args.cell.now) c.args.others.now n 0 c.args.cells.now c.requires
