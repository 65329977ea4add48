use Rattle.std.proofs.Common.{◌≡◌, length, drop}
use Rattle.class_world.specs.inner.Marking.{marks_after, todo_after}
use Rattle.class_world.proofs.hierarchy.mark_all.Given as goal

abbrev pub invariant-loop-class : goal.invariant-loop-class
invariant-loop-class l = record {
  len : length l.marks.items ≡ length l.initial.marks.items;
  marks : marks_after l.marks.items (drop l.class-index l.supers) ≡ marks_after l.initial.marks.items l.supers;
  todo : todo_after l.marks.items l.todo.items (drop l.class-index l.supers) ≡ todo_after l.initial.marks.items l.initial.todo.items
      l.supers;
}
