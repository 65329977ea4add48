use Rattle.abs_cells.proofs.Replaying.{IsReplaying}
use Rattle.abs_cells.proofs.replays.replay.Given as goal

abbrev pub invariant-loop-call : goal.invariant-loop-call
invariant-loop-call g l = IsReplaying l.calls (g.P.Pairs.pairs l.initial.pairs) (g.P.Pairs.pairs l.pairs) l.call-index l.answers.items
