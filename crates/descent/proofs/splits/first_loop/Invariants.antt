use Rattle.std.proofs.Common.{◌≡◌, drop}
use Rattle.descent.specs.inner.Placed.{loop_among}
use Rattle.descent.proofs.splits.first_loop.Given as goal

abbrev pub invariant-loop-rule : goal.invariant-loop-rule
invariant-loop-rule l = loop_among l.rules l.parts l.steps (drop l.rule-index l.placed) ≡ loop_among l.rules l.parts l.steps l.placed
