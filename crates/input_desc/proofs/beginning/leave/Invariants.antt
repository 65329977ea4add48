use Rattle.std.proofs.Common.{◌≡◌, ◌++◌, replicate, None}
use Rattle.input_desc.proofs.beginning.leave.Given as goal

abbrev pub invariant-loop : goal.invariant-loop
invariant-loop l = l.locals ≡ l.initial.locals ++ replicate l.counter None
