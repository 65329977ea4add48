use Rattle.std.proofs.Common.{◌≡◌}
use Rattle.std.specs.List.{filter_map, range_with_len}
use Rattle.class_program.specs.Views.{program_of}
use Rattle.call_graph.specs.inner.Listed.{class_run}
use Rattle.call_graph.proofs.calls.class_runs.Given as goal

abbrev pub invariant-loop-class : goal.invariant-loop-class
invariant-loop-class l = l.found ≡ filter_map (class_run (program_of l.program) l.method l.pc) (range_with_len 0 l.class)
