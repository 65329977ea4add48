use Rattle.std.proofs.Common.{◌+◌, ℕ, length, sym, ap, ◌∙◌}
use Rattle.its_front.specs.Reading.{unread, with_lines}
use Rattle.its_front.proofs.Sound.{given_on, goes_on, stops_so, line_read}
use Rattle.its_front.proofs.reading.with_lines.Goals as goal

pub returns-in_err-with_line : goal.returns-in_err-with_line
returns-in_err-with_line c =
    given_on c.from_residual.result c.in_err-with_line.field-0.0 (with_lines (length c.args.texts.now) 1 unread c.args.texts.now)
    c.from_residual.ensures.1
    (stops_so (length c.args.texts.now) c.loop-text.line c.loop-text.text-index c.loop-text.reading c.args.texts.now
    c.text-item.result c.in_err-with_line.field-0.0 _ c.loop-text-test.true c.text-item.is c.loop-text.invariant.0
    c.in_err-with_line.ensures)

pub loop-text-preserved : goal.loop-text-preserved
loop-text-preserved c =
    let said = c.in_ok-with_line.ensures in (
      sym (goes_on (length c.args.texts.now) c.loop-text.line c.loop-text.text-index c.loop-text.reading c.with_line.new.reading
          c.args.texts.now c.text-item.result c.loop-text-test.true c.text-item.is said) ∙ c.loop-text.invariant.0,
      (ap (λ (n : ℕ). n + 1) c.loop-text.invariant.1),
      line_read c.loop-text.reading _ c.loop-text.line c.text-item.result c.with_line.new.reading c.loop-text.invariant.2 said,
    )
