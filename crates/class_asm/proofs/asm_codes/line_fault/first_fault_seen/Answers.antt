use Rattle.std.proofs.Common.{◌+◌, false, cond, ap, ◌∙◌}
use Rattle.std.specs.Option.{option_map_or}
use Rattle.asm_lines.specs.declared.listing.CodeLine.{CodeLine}
use Rattle.class_asm.specs.asm_codes.Places.{place_in}
use Rattle.class_asm.specs.asm_codes.LineFaults.{is_among, with_seen, is_catch}
use Rattle.class_asm.proofs.FirstFaults.{one_more}
use Rattle.class_asm.proofs.asm_codes.line_fault.first_fault_seen.Goals as goal

pub loop-line-preserved : goal.loop-line-preserved
loop-line-preserved c =
    one_more (place_in c.args.labels.now) c.args.lines.now c.loop-line.line-index (is_among c.loop-line.seen)
    (is_among c.is_repeated.new.seen) c.loop-line.entries c.with_item-entries.result c.loop-line.pc c.line-item.result
    c.in_ok-size.fits c.in_ok-repeated.repeated c.in_ok-size.size
    (record {
      so_far = c.loop-line.invariant;
      inside = c.loop-line-test.true;
      at = c.line-item.is;
      size = c.in_ok-size.ensures.0;
      fitting = c.in_ok-size.ensures.2;
      repeats = c.in_ok-repeated.ensures.repeated
          ∙ ap (λ (code : CodeLine). option_map_or (is_among c.loop-line.seen) code.label false) c.code-code.ensures;
    })
    c.in_default.ensures (c.in_ok-repeated.ensures.labels
    ∙ ap (λ (code : CodeLine). with_seen (is_among c.loop-line.seen) code.label) c.code-code.ensures)
    (c.with_item-entries.ensures ∙ ap (λ (code : CodeLine). cond (is_catch code.item) (c.loop-line.entries + 1) c.loop-line.entries)
    c.code-code.ensures)
