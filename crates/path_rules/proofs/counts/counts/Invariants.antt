use Rattle.path_rules.proofs.Counted.{AreRightBelow}
use Rattle.path_rules.proofs.counts.counts.Given as goal

abbrev pub invariant-loop-round : goal.invariant-loop-round
invariant-loop-round l = AreRightBelow l.lists l.marks l.ranks l.counts l._round
