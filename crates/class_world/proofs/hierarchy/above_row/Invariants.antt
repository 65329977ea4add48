use Rattle.std.proofs.Common.{◌+◌, length}
use Rattle.code_forms.specs.list_views.Lists.{open_count}
use Rattle.class_world.proofs.Marking.{Closing}
use Rattle.class_world.proofs.hierarchy.above_row.Given as goal

abbrev pub invariant-loop-next : goal.invariant-loop-next
invariant-loop-next l = Closing l.supers l.class l.marks.items l.todo.items

abbrev pub decreases-loop-next : goal.decreases-loop-next
decreases-loop-next l = open_count l.marks.items + length l.todo.items
