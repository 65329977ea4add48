use Rattle.std.proofs.Common.{◌+◌, length}
use Rattle.list_views.specs.Lists.{open_count}
use Rattle.jvm_heaps.proofs.MarkTurns.{IsMarking}
use Rattle.jvm_heaps.proofs.marking.marked.Given as goal

abbrev pub invariant-loop-a : goal.invariant-loop-a
invariant-loop-a l = IsMarking l.heap l.fn.value l.marks.items l.todo.items

abbrev pub decreases-loop-a : goal.decreases-loop-a
decreases-loop-a l = open_count l.marks.items + length l.todo.items
