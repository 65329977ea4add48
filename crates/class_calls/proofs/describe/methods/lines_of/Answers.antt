use Rattle.std.proofs.Common.{sym, ◌∙◌}
use Rattle.class_calls.proofs.Lines.{lines_in, line_more, line_none}
use Rattle.class_calls.proofs.describe.methods.lines_of.Goals.{then-has_inputs+in_ok-put_line, else-has_inputs}
use Rattle.class_calls.proofs.describe.methods.lines_of.Goals as goal

pub loop-method-preserved : goal.loop-method-preserved
loop-method-preserved c = elim c.if-has_inputs.branch [
  | then-has_inputs+in_ok-put_line w ↦ rw w.lines-is
      (line_more c.loop-method.lines.items _ c.args.methods.now c.loop-method.method-index c.method-item.result
      (lines_in c.args.methods.now) c.loop-method-test.true c.method-item.is (sym c.has_inputs.ensures ∙ w.if-has_inputs.true)
      w.in_ok-put_line.ensures c.loop-method.invariant)
  | else-has_inputs w ↦ rw w.lines-is (line_none c.loop-method.lines.items c.args.methods.now c.loop-method.method-index
      c.method-item.result (lines_in c.args.methods.now) c.loop-method-test.true c.method-item.is
      (sym c.has_inputs.ensures ∙ w.if-has_inputs.false) c.loop-method.invariant)
]
