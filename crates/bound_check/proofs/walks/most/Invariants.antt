use Rattle.bound_check.proofs.Walking.{AreRightBelow}
use Rattle.bound_check.proofs.walks.most.Given as goal

abbrev pub invariant-loop-round : goal.invariant-loop-round
invariant-loop-round l = AreRightBelow l.links.nodes l.lists l.marks l.ends l.ranks l.most l._round
