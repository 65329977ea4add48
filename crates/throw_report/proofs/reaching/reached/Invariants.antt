use Rattle.std.proofs.Common.{◌+◌, length}
use Rattle.list_views.specs.Lists.{open_count}
use Rattle.number_graphs.proofs.Cycles.{Spreads}
use Rattle.throw_report.proofs.reaching.reached.Given as goal

abbrev pub invariant-loop-number : goal.invariant-loop-number
invariant-loop-number l = Spreads l.rows l.start l.marks.items l.todo

abbrev pub decreases-loop-number : goal.decreases-loop-number
decreases-loop-number l = open_count l.marks.items + length l.todo
