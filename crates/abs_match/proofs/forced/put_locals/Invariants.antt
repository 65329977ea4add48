use Rattle.abs_match.specs.inner.Forced.{AreFirstPut, locals_ask}
use Rattle.abs_match.proofs.Forcing.{local_ids}
use Rattle.abs_match.proofs.forced.put_locals.Given as goal

abbrev pub invariant-loop-n : goal.invariant-loop-n
invariant-loop-n l = AreFirstPut (locals_ask l.theirs l.ours) (local_ids l.theirs l.ours) l.theirs l.n l.initial.todo.0 l.todo.0
