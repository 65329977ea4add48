use Rattle.std.proofs.Common.{◌≡◌, drop, None}
use Rattle.rank_forms.specs.inner.Forms.{next_from}
use Rattle.rank_forms.proofs.forms.next_cut.Given as goal

abbrev pub invariant-loop-rule : goal.invariant-loop-rule
invariant-loop-rule l = next_from l.low l.best (drop l.rule-index l.rules) ≡ next_from l.low None l.rules
