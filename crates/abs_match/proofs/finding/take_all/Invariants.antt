use Rattle.std.proofs.Common.{◌+◌, length}
use Rattle.abs_reach.specs.inner.Turns.{still}
use Rattle.abs_match.specs.inner.Forced.{IsSearching, names_count}
use Rattle.abs_match.proofs.finding.take_all.Given as goal

abbrev pub invariant-loop-id : goal.invariant-loop-id
invariant-loop-id g l = IsSearching l.state l.target l.met l.entries.items l.todo.0

abbrev pub decreases-loop-id : goal.decreases-loop-id
decreases-loop-id g l = length l.todo.0 + still names_count l.target.cells l.met
