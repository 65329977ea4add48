use Rattle.std.proofs.Common.{◌≡◌, ◌++◌, drop}
use Rattle.descent.specs.inner.Spreading.{groups_of}
use Rattle.descent.proofs.reaching.groups_of.Given as goal

abbrev pub invariant-loop-n : goal.invariant-loop-n
invariant-loop-n l = l.groups ++ groups_of l.rules l.n (drop l.n l.rules) ≡ groups_of l.rules 0 l.rules
