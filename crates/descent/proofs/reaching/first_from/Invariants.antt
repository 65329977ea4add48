use Rattle.std.proofs.Common.{◌≡◌, drop}
use Rattle.descent.specs.inner.Spreading.{first_from}
use Rattle.descent.proofs.reaching.first_from.Given as goal

abbrev pub invariant-loop-n : goal.invariant-loop-n
invariant-loop-n l = first_from l.cut l.n (drop l.n l.rules) ≡ first_from l.cut 0 l.rules
