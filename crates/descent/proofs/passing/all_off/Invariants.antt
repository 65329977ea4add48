use Rattle.std.proofs.Common.{◌≡◌, drop}
use Rattle.descent.specs.inner.Marking.{all_off}
use Rattle.descent.proofs.passing.all_off.Given as goal

abbrev pub invariant-loop-rule : goal.invariant-loop-rule
invariant-loop-rule l = all_off (drop l.rule-index l.set) l.marks ≡ all_off l.set l.marks
