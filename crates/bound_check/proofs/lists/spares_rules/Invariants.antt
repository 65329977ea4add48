use Rattle.std.proofs.Common.{◌≡◌, drop}
use Rattle.bound_check.specs.inner.Words.{spares_rules}
use Rattle.bound_check.proofs.lists.spares_rules.Given as goal

abbrev pub invariant-loop-rule : goal.invariant-loop-rule
invariant-loop-rule l = spares_rules l.set (drop l.rule-index l.listed) ≡ spares_rules l.set l.listed
