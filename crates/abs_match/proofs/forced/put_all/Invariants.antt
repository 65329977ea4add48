use Rattle.std.proofs.Common.{◌≡◌, drop}
use Rattle.abs_match.specs.inner.Forced.{stacked}
use Rattle.abs_match.proofs.forced.put_all.Given as goal

abbrev pub invariant-loop-n : goal.invariant-loop-n
invariant-loop-n l = stacked (drop l.n l.ids) (drop l.n l.images) l.todo.0 ≡ stacked l.ids l.images l.initial.todo.0
