use Rattle.std.proofs.Common.{◌≡◌, drop, length}
use Rattle.jvm_heaps.specs.Marks.{all_marks, all_todo}
use Rattle.jvm_heaps.proofs.marking.mark_all.Given as goal

abbrev pub invariant-loop-value : goal.invariant-loop-value
invariant-loop-value l = record {
  marks : all_marks (drop l.value-index l.values) l.marks.items ≡ all_marks l.values l.initial.marks.items;
  todo : all_todo (drop l.value-index l.values) l.marks.items l.todo.items ≡ all_todo l.values l.initial.marks.items l.initial.todo.items;
  size : length l.marks.items ≡ length l.initial.marks.items;
}
