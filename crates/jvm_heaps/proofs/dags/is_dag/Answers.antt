use Rattle.std.proofs.Common.{ap}
use Rattle.jvm_values.specs.Heaps.{target}
use Rattle.jvm_heaps.proofs.dags.is_dag.Goals as goal

pub is_acyclic-requires-clause-in_heap : goal.is_acyclic-requires-clause-in_heap
is_acyclic-requires-clause-in_heap c = c.requires.in_heap _ (ap target c.in-Ref.is)
