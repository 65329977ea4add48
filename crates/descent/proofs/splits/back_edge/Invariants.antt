use Rattle.std.proofs.Common.{◌≡◌, drop}
use Rattle.descent.specs.inner.Placed.{back_among}
use Rattle.descent.proofs.splits.back_edge.Given as goal

abbrev pub invariant-loop-rule : goal.invariant-loop-rule
invariant-loop-rule l = back_among l.rules l.placed (drop l.rule-index l.placed) ≡ back_among l.rules l.placed l.placed
