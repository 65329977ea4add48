use Rattle.std.proofs.Common.{◌∙◌, ◌<◌, ℕ, List, ap, sym, subst}
use Rattle.std.specs.List.{list_any}
use Rattle.std.proofs.lemmas.List.{take_all}
use Rattle.abs_cells.specs.declared.cells.Cell.{Cell}
use Rattle.abs_cells.specs.Cells.{is_hazy}
use Rattle.abs_cells.proofs.Checking.{id_is_low}
use Rattle.abs_heap.proofs.Choosing.{chosen, chosen_next, chosen_are}
use Rattle.abs_heap.proofs.renaming.hazy_ids.Goals as goal

pub put_if-requires : goal.put_if-requires
put_if-requires c = subst (λ (x : ℕ × Cell). x.0 < 2048) (sym c.loop-id-item.is)
    (id_is_low 0 c.args.cells.now c.loop-id.id-index c.loop-id-item.result c.requires c.loop-id-test.true)

pub loop-id-preserved : goal.loop-id-preserved
loop-id-preserved c n = chosen_next is_hazy c.args.set.now n c.loop-id.id-index c.loop-id-item.result c.args.cells.now _ _ _
    c.loop-id-test.true c.loop-id-item.is c.is_hazy_in-wanted.ensures (c.loop-id.invariant n) (c.put_if.ensures n)

pub returns : goal.returns
returns c n =
    c.loop-id.invariant n
    ∙ ap (λ (xs : List (ℕ × Cell)). list_any (chosen is_hazy c.args.set.now n) xs)
    (take_all c.loop-id.id-index c.args.cells.now c.loop-id-test.false)
    ∙ chosen_are is_hazy c.args.set.now n 0 c.args.cells.now c.requires
