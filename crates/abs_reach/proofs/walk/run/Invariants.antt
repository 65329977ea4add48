use Rattle.std.proofs.Common.{◌+◌, ◌≤◌, length}
use Rattle.abs_reach.specs.inner.Turns.{still, one}
use Rattle.abs_reach.proofs.Room.{ahead, work}
use Rattle.abs_reach.proofs.Walked.{WalksFrom}
use Rattle.abs_reach.proofs.walk.run.Given as goal

abbrev pub invariant-loop-id : goal.invariant-loop-id
invariant-loop-id l = record {
  walk : WalksFrom l.names l.cells l.initial.found.met l.initial.trail.0 l.found l.trail.0;
  room : length l.trail.0 + still one l.cells l.found.met ≤ length l.cells;
  space : 2048 ≤ l.trail.1;
}

abbrev pub decreases-loop-id : goal.decreases-loop-id
decreases-loop-id l = still (work l.names) l.cells l.found.met + ahead l.names l.cells l.trail.0
