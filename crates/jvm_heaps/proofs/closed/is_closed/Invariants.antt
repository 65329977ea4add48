use Rattle.std.proofs.Common.{ℕ, ◌<◌, get_or, length}
use Rattle.std.specs.Prelude.{All}
use Rattle.jvm_values.specs.declared.heap.Object.{Object}
use Rattle.jvm_values.specs.Heaps.{IsInHeap, values_of}
use Rattle.jvm_heaps.proofs.closed.is_closed.Given as goal

abbrev pub invariant-loop-object : goal.invariant-loop-object
invariant-loop-object l = (k : ℕ) (d : Object) → k < l.object-index
    → All (IsInHeap (length l.heap.objects)) (values_of (get_or l.heap.objects k d))
