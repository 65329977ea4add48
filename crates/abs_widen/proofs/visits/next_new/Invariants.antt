use Rattle.std.proofs.Common.{length}
use Rattle.abs_widen.specs.inner.Visiting.{IsLeft}
use Rattle.abs_widen.proofs.visits.next_new.Given as goal

abbrev pub invariant-loop-pair : goal.invariant-loop-pair
invariant-loop-pair l = IsLeft l.met l.initial.todo.0 l.todo.0

abbrev pub decreases-loop-pair : goal.decreases-loop-pair
decreases-loop-pair l = length l.todo.0
