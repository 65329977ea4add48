use Rattle.std.proofs.Common.{◌≡◌, drop}
use Rattle.bound_check.specs.Entries.{missing_from}
use Rattle.bound_check.proofs.entries.missing.Given as goal

abbrev pub invariant-loop-n : goal.invariant-loop-n
invariant-loop-n l = missing_from l.entries l.steps l.n (drop l.n l.steps) ≡ missing_from l.entries l.steps 0 l.steps
