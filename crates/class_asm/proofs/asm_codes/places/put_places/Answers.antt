use Rattle.std.proofs.Common.{ap, ◌∙◌}
use Rattle.asm_lines.specs.declared.listing.CodeLine.{CodeLine}
use Rattle.class_asm.specs.asm_codes.Places.{place_in, with_mark}
use Rattle.class_asm.proofs.Marks.{one_more, all_marked}
use Rattle.class_asm.proofs.asm_codes.places.put_places.Goals as goal

pub loop-line-preserved : goal.loop-line-preserved
loop-line-preserved c =
    one_more (place_in c.loop-line.labels) (place_in c.mark.new.labels) c.loop-line.pc c.in_ok-size.size c.loop-line.line-index
    c.args.lines.now c.line-item.result c.loop-line-test.true c.line-item.is
    (c.in_ok-mark.ensures ∙ ap (λ (code : CodeLine). with_mark (place_in c.loop-line.labels) code.label c.loop-line.pc)
    c.code.ensures) c.in_ok-size.ensures.0
    ∙ c.loop-line.invariant

pub returns : goal.returns
returns c = all_marked (place_in c.loop-line.labels) _ c.loop-line.pc c.loop-line.line-index c.args.lines.now c.loop-line-test.false
    c.loop-line.invariant
