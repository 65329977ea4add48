use Rattle.std.proofs.Common.{◌≡◌, drop}
use Rattle.descent.specs.inner.Marking.{take_part}
use Rattle.descent.proofs.passing.take_part.Given as goal

abbrev pub invariant-loop-rule : goal.invariant-loop-rule
invariant-loop-rule l = take_part (drop l.rule-index l.part) l.marks.items ≡ take_part l.part l.initial.marks.items
