use Rattle.std.proofs.Common.{◌∙◌, ap, sym, subst, ℕ, ◌<◌, List}
use Rattle.std.specs.List.{list_any}
use Rattle.std.proofs.lemmas.List.{take_all}
use Rattle.abs_cells.specs.declared.cells.Cell.{Cell}
use Rattle.abs_cells.specs.Cells.{sort_test}
use Rattle.abs_cells.proofs.Checking.{id_is_low, sort_is, is_here}
use Rattle.abs_cells.proofs.checks.ids_of_sort.Goals as goal

pub put-requires : goal.put-requires
put-requires c = subst (λ (x : ℕ × Cell). x.0 < 2048) (sym c.loop-id-item.is)
    (id_is_low 0 c.args.cells.now c.loop-id.id-index c.loop-id-item.result c.requires c.loop-id-test.true)

pub returns : goal.returns
returns c n =
    let whole = take_all c.loop-id.id-index c.args.cells.now c.loop-id-test.false in
    c.loop-id.invariant n ∙ ap (λ (xs : List (ℕ × Cell)). list_any (is_here (sort_test c.args.sort) n) xs) whole
    ∙ sort_is (sort_test c.args.sort) 0 n c.args.cells.now c.requires
