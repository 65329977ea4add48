use Rattle.std.proofs.Common.{◌≡◌, ◌++◌}
use Rattle.input_desc.specs.Initial.{given_from}
use Rattle.input_desc.proofs.beginning.give.Given as goal

abbrev pub invariant-loop-n : goal.invariant-loop-n
invariant-loop-n l = l.locals ≡ l.initial.locals ++ given_from l.from l.n
