use Rattle.std.proofs.Common.{◌≡◌, drop}
use Rattle.jvm_heaps.specs.Searches.{all_enter}
use Rattle.jvm_heaps.proofs.dags.enter_all.Given as goal

abbrev pub invariant-loop-value : goal.invariant-loop-value
invariant-loop-value l = all_enter (drop l.value-index l.values) l.todo.0 ≡ all_enter l.values l.initial.todo.0
