use Rattle.std.proofs.Common.{sym, ap, ◌∙◌}
use Rattle.std.specs.Prelude.{filter}
use Rattle.std.specs.List.{concat}
use Rattle.descent.specs.inner.Placed.{lesser}
use Rattle.descent.specs.Splits.{is_misplaced, least}
use Rattle.descent.proofs.Placing.{least_filter, part_more}
use Rattle.descent.proofs.splits.uncovered.Goals as goal

pub loop-part-init : goal.loop-part-init
loop-part-init c =
    let test = is_misplaced c.args.set.now c.args.parts.now in
    ap (λ o. lesser o (least (filter test (concat c.args.parts.now)))) c.least_misplaced-least.ensures
    ∙ sym (least_filter test c.args.set.now (concat c.args.parts.now))

pub loop-part-preserved : goal.loop-part-preserved
loop-part-preserved c =
    let test = is_misplaced c.args.set.now c.args.parts.now in
    part_more test c.loop-part.least _ _ c.args.parts.now c.part-item.result c.loop-part.part-index c.loop-part-test.true
    c.part-item.is c.loop-part.invariant (c.least_misplaced-least-in-loop-part.ensures
    ∙ ap (λ l. lesser c.loop-part.least (least (filter test l))) c.as_slice.ensures)
