use Rattle.std.proofs.Common.{◌≡◌, drop, length}
use Rattle.descent.specs.Steps.{given_first}
use Rattle.bound_check.specs.Parts.{given_from}
use Rattle.bound_check.proofs.parts.given_sets.Given as goal

abbrev pub invariant-loop-n : goal.invariant-loop-n
invariant-loop-n l = given_from l.n l.given.items (drop l.n l.steps)
    ≡ given_from 0 (given_first l.fn.rules (length l.steps)) l.steps
