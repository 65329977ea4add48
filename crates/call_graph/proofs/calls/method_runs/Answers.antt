use Rattle.std.proofs.Common.{◌∙◌, ap, ◌++◌, ℕ, List}
use Rattle.class_program.specs.declared.op.Op.{Op}
use Rattle.class_program.specs.Views.{program_of}
use Rattle.call_graph.specs.inner.Listed.{place_runs}
use Rattle.call_graph.proofs.Rows.{flat_step}
use Rattle.call_graph.proofs.calls.method_runs.Goals as goal

pub loop-pc-preserved : goal.loop-pc-preserved
loop-pc-preserved c =
    flat_step (λ (x : ℕ × Op). place_runs (program_of c.args.program.now) c.args.method x.0) c.args.insns.now c.loop-pc.pc-index
    c.loop-pc-item.result c.loop-pc.found c.extend_from_slice.new.self c.in_ok-more.more _ c.loop-pc.invariant c.loop-pc-test.true
    (c.in_ok-more.ensures ∙ ap (λ (x : ℕ × Op). place_runs (program_of c.args.program.now) c.args.method x.0) c.loop-pc-item.is)
    (c.in_ok-extend_from_slice.ensures ∙ ap (λ (l : List ℕ). c.loop-pc.found ++ l) c.as_slice.ensures)
