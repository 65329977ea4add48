use Rattle.std.proofs.Common.{◌-◌, length}
use Rattle.abs_widen.specs.inner.Visiting.{IsLeftOf}
use Rattle.abs_widen.proofs.visits.visit_all.Given as goal

abbrev pub invariant-loop-pair : goal.invariant-loop-pair
invariant-loop-pair g l = IsLeftOf l.a l.b l.initial.met.items l.initial.todo.0 l.met.items l.todo.0

abbrev pub decreases-loop-pair : goal.decreases-loop-pair
decreases-loop-pair g l = 512 - length l.met.items
