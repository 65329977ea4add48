use Rattle.std.proofs.Common.{◌+◌, length}
use Rattle.list_views.specs.Lists.{open_count}
use Rattle.descent.proofs.Spread.{IsMarking}
use Rattle.descent.proofs.reaching.row.Given as goal

abbrev pub invariant-loop-group : goal.invariant-loop-group
invariant-loop-group l = IsMarking l.rules l.rule l.next l.groups (l.marks.items, (l.seen.items, l.todo))

abbrev pub decreases-loop-group : goal.decreases-loop-group
decreases-loop-group l = open_count l.seen.items + length l.todo
