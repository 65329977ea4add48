use Rattle.std.proofs.Common.{◌∙◌, ap, ◌++◌}
use Rattle.std.specs.Option.{option_to_list}
use Rattle.class_program.specs.Views.{program_of}
use Rattle.call_graph.specs.inner.Listed.{class_run}
use Rattle.call_graph.proofs.Rows.{range_step}
use Rattle.call_graph.proofs.calls.class_runs.Goals as goal

pub loop-class-preserved : goal.loop-class-preserved
loop-class-preserved c = range_step (class_run (program_of c.args.program.now) c.args.method c.args.pc) c.loop-class.found _
    c.loop-class.class c.loop-class.invariant
    (c.in_ok-push_some.ensures ∙ ap (λ o. c.loop-class.found ++ option_to_list o) c.class_run.ensures)
