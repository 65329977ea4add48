use Rattle.std.proofs.Common.{◌≡◌, drop}
use Rattle.descent.specs.inner.Marking.{mark_all}
use Rattle.descent.proofs.passing.mark_all.Given as goal

abbrev pub invariant-loop-rule : goal.invariant-loop-rule
invariant-loop-rule l = mark_all (drop l.rule-index l.set) l.marks.items ≡ mark_all l.set l.initial.marks.items
