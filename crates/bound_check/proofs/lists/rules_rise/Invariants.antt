use Rattle.std.proofs.Common.{◌≡◌, drop}
use Rattle.bound_check.specs.Entries.{rise_after, rises}
use Rattle.bound_check.specs.inner.Words.{rule_numbers}
use Rattle.bound_check.proofs.lists.rules_rise.Given as goal

abbrev pub invariant-loop-rule : goal.invariant-loop-rule
invariant-loop-rule l = rise_after l.before (rule_numbers (drop l.rule-index l.rules)) ≡ rises (rule_numbers l.rules)
