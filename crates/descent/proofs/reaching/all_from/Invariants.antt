use Rattle.std.proofs.Common.{◌≡◌, ◌++◌, drop}
use Rattle.descent.specs.inner.Spreading.{all_from}
use Rattle.descent.proofs.reaching.all_from.Given as goal

abbrev pub invariant-loop-n : goal.invariant-loop-n
invariant-loop-n l = l.all ++ all_from l.cut l.n (drop l.n l.rules) ≡ all_from l.cut 0 l.rules
