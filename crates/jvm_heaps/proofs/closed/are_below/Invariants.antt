use Rattle.std.proofs.Common.{ℕ, ◌<◌, get_or}
use Rattle.jvm_values.specs.declared.heap.Value.{Value}
use Rattle.jvm_values.specs.Heaps.{IsInHeap}
use Rattle.jvm_heaps.proofs.closed.are_below.Given as goal

abbrev pub invariant-loop-value : goal.invariant-loop-value
invariant-loop-value l = (k : ℕ) (d : Value) → k < l.value-index → IsInHeap l.count (get_or l.values k d)
