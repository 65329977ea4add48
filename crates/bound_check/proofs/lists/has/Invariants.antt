use Rattle.std.proofs.Common.{◌≡◌, drop}
use Rattle.descent.specs.Splits.{has}
use Rattle.bound_check.proofs.lists.has.Given as goal

abbrev pub invariant-loop-other : goal.invariant-loop-other
invariant-loop-other l = has (drop l.other-index l.set) l.rule ≡ has l.set l.rule
