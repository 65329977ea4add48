use Rattle.std.proofs.Common.{◌≡◌, ◌+◌, drop}
use Rattle.descent.specs.inner.Inserting.{first_at}
use Rattle.descent.proofs.grouping.first_at.Given as goal

abbrev pub invariant-loop-n : goal.invariant-loop-n
invariant-loop-n l = l.n + first_at l.table l.rule (drop l.n l.classes) ≡ first_at l.table l.rule l.classes
