use Rattle.std.proofs.Common.{◌≡◌, length}
use Rattle.jvm_heaps.proofs.Ways.{IsTurn}
use Rattle.jvm_heaps.proofs.trees.names_none_twice.Given as goal

abbrev pub invariant-loop-a : goal.invariant-loop-a
invariant-loop-a l = record {
  size : length l.named.items ≡ length l.heap.objects;
  turn : IsTurn l.heap l.fn.value l.region l.a 0 l.named.items l.new;
}
