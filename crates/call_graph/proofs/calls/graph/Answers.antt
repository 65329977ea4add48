use Rattle.std.proofs.Common.{◌∙◌, ap, ℕ, List}
use Rattle.class_program.specs.declared.op.Op.{Op}
use Rattle.class_program.specs.declared.program.Method.{Method}
use Rattle.class_program.specs.Views.{program_of}
use Rattle.call_graph.specs.inner.Listed.{method_runs}
use Rattle.call_graph.proofs.Rows.{row_step, more_done}
use Rattle.call_graph.proofs.calls.graph.Goals as goal

pub loop-number-preserved : goal.loop-number-preserved
loop-number-preserved c = record {
  done = more_done c.loop-number.graph c.push.new.self c.in_ok-method_runs.field-0 c.loop-number.number c.loop-number.invariant.done
      c.in_ok-push.ensures.items;
  rows = row_step (program_of c.args.program.now) c.as_slice-methods.result.now c.loop-number.number c.index-methods-number.result
      c.loop-number.graph c.push.new.self _ c.in_ok-method_runs.field-0 c.loop-number.invariant.rows c.loop-number-test.true
      (c.in_ok-method_runs.ensures ∙ ap (λ (l : List (ℕ × Op)). method_runs (program_of c.args.program.now) c.loop-number.number l)
      (c.as_slice.ensures.list ∙ ap (λ (m : Method). m.insns) c.index-methods-number.is))
      c.in_ok-push.ensures.items;
}
