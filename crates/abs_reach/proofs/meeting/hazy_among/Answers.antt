use Rattle.std.proofs.Common.{◌∙◌, ap, sym, subst, ℕ, ◌<◌, List}
use Rattle.std.specs.List.{list_any}
use Rattle.std.proofs.lemmas.List.{take_all}
use Rattle.abs_cells.specs.declared.cells.Cell.{Cell}
use Rattle.abs_cells.proofs.Checking.{id_is_low}
use Rattle.abs_reach.proofs.Answering.{is_hazy_here, hazy_are}
use Rattle.abs_reach.proofs.meeting.hazy_among.Goals as goal

pub put-requires : goal.put-requires
put-requires c = subst (λ (x : ℕ × Cell). x.0 < 2048) (sym c.loop-id-item.is)
    (id_is_low 0 c.args.cells.now c.loop-id.id-index c.loop-id-item.result c.requires c.loop-id-test.true)

pub returns : goal.returns
returns c n =
    let whole = take_all c.loop-id.id-index c.args.cells.now c.loop-id-test.false in
    c.loop-id.invariant n ∙ ap (λ (xs : List (ℕ × Cell)). list_any (is_hazy_here c.args.set.now n) xs) whole
    ∙ hazy_are c.args.set.now n c.args.cells.now c.requires
