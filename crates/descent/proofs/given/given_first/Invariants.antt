use Rattle.std.proofs.Common.{◌≡◌, ◌++◌, ◌-◌, replicate, None}
use Rattle.descent.specs.Steps.{given_first}
use Rattle.descent.proofs.given.given_first.Given as goal

abbrev pub invariant-loop-n : goal.invariant-loop-n
invariant-loop-n l = l.given.items ++ replicate (l.steps - l._n) None ≡ given_first l.rules l.steps
