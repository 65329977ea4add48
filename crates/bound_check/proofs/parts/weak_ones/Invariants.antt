use Rattle.std.proofs.Common.{◌≡◌, ◌++◌, drop}
use Rattle.descent.specs.Steps.{weak_ones}
use Rattle.bound_check.proofs.parts.weak_ones.Given as goal

abbrev pub invariant-loop-listed : goal.invariant-loop-listed
invariant-loop-listed l = l.set ++ weak_ones (drop l.listed-index l.rules) ≡ weak_ones l.rules
