use Rattle.abs_match.specs.inner.Forced.{AreFirstPut, entries_ask}
use Rattle.abs_match.proofs.Forcing.{entry_ids}
use Rattle.abs_match.proofs.forced.put_entries.Given as goal

abbrev pub invariant-loop-n : goal.invariant-loop-n
invariant-loop-n l = AreFirstPut (entries_ask l.theirs l.ours) (entry_ids l.theirs l.ours) l.theirs l.n l.initial.todo.0 l.todo.0
