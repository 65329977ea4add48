use Rattle.std.proofs.Common.{◌≡◌, ◌++◌, replicate, None}
use Rattle.abs_plans.proofs.calls.add_unset.Given as goal

abbrev pub invariant-loop-place : goal.invariant-loop-place
invariant-loop-place l = l.locals ≡ l.initial.locals ++ replicate l.place None
