use Rattle.std.proofs.Common.{◌≡◌, ◌++◌, drop}
use Rattle.std.specs.List.{flat_map}
use Rattle.class_program.specs.Views.{program_of}
use Rattle.call_graph.specs.inner.Listed.{place_runs}
use Rattle.call_graph.proofs.calls.method_runs.Given as goal

abbrev pub invariant-loop-pc : goal.invariant-loop-pc
invariant-loop-pc l = l.found ++ flat_map (λ x. place_runs (program_of l.program) l.method x.0) (drop l.pc-index l.insns) ≡ flat_map
    (λ x. place_runs (program_of l.program) l.method x.0) l.insns
