use Rattle.std.proofs.Common.{◌≡◌, drop, length}
use Rattle.jvm_heaps.specs.Marks.{all_marks}
use Rattle.jvm_heaps.specs.Trees.{all_new}
use Rattle.jvm_heaps.proofs.trees.mark_all_new.Given as goal

abbrev pub invariant-loop-value : goal.invariant-loop-value
invariant-loop-value l = record {
  marks : all_marks (drop l.value-index l.values) l.named.items ≡ all_marks l.values l.initial.named.items;
  new : all_new (drop l.value-index l.values) l.named.items l.new ≡ all_new l.values l.initial.named.items l.fn.first;
  size : length l.named.items ≡ length l.initial.named.items;
}
