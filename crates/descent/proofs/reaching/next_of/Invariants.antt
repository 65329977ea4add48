use Rattle.std.proofs.Common.{◌≡◌, ◌++◌, drop}
use Rattle.descent.specs.inner.Spreading.{next_of}
use Rattle.descent.proofs.reaching.next_of.Given as goal

abbrev pub invariant-loop-rule : goal.invariant-loop-rule
invariant-loop-rule l = l.next ++ next_of l.rules (drop l.rule-index l.rules) ≡ next_of l.rules l.rules
