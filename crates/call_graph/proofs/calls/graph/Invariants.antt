use Rattle.std.proofs.Common.{◌≡◌, ◌++◌, drop, length}
use Rattle.class_program.specs.Views.{program_of}
use Rattle.call_graph.specs.inner.Listed.{rows_from, graph_of}
use Rattle.call_graph.proofs.calls.graph.Given as goal

abbrev pub invariant-loop-number : goal.invariant-loop-number
invariant-loop-number l = record {
  done : length l.graph ≡ l.number;
  rows : l.graph ++ rows_from (program_of l.program) l.number (drop l.number l.methods) ≡ graph_of (program_of l.program);
}
