use Rattle.std.proofs.Common.{◌≡◌, drop}
use Rattle.descent.specs.inner.Marking.{enters}
use Rattle.descent.proofs.passing.enters.Given as goal

abbrev pub invariant-loop-number : goal.invariant-loop-number
invariant-loop-number l = enters l.rules (drop l.number-index l.part) l.marks ≡ enters l.rules l.part l.marks
