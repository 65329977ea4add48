use Rattle.std.proofs.Common.{◌≡◌, drop}
use Rattle.descent.specs.inner.Marking.{mark_starts}
use Rattle.descent.proofs.passing.mark_starts.Given as goal

abbrev pub invariant-loop-number : goal.invariant-loop-number
invariant-loop-number l = mark_starts l.rules (drop l.number-index l.part) l.marks.items ≡ mark_starts l.rules l.part l.initial.marks.items
