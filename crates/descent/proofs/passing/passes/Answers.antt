use Rattle.std.proofs.Common.{◌∙◌, ap, sym}
use Rattle.descent.specs.inner.Marking.{all_off}
use Rattle.descent.proofs.Passed.{passes_told, done}
use Rattle.descent.proofs.passing.passes.Goals as goal

pub returns : goal.returns
returns c t = passes_told c.args.rules.now c.args.set.now c.args.parts.now c.args.steps.now _ c.in_ok-open.open.items
    c.mark_all.new.marks.items c.take_all.new.marks.items c.in_ok-starts.starts.items c.flow.new.marks.items c.all_light.result
    (c.in_ok-open.ensures.items_if_clones_equal (λ y e. e)) (done c.mark_all.result _ _ c.if-not-mark_all.false c.mark_all.ensures)
    (done c.take_all.result _ _ c.if-not-take_all.false c.take_all.ensures)
    (ap (all_off c.args.set.now) (sym c.as_slice.ensures.value) ∙ sym c.all_off.ensures ∙ c.if-not-all_off.false)
    (done c.flow.result _ _ c.if-not-flow.false c.flow.ensures) c.all_light.ensures t
