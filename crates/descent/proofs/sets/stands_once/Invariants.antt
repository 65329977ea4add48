use Rattle.std.proofs.Common.{◌≡◌, drop}
use Rattle.descent.specs.Splits.{stands_once}
use Rattle.descent.proofs.sets.stands_once.Given as goal

abbrev pub invariant-loop-n : goal.invariant-loop-n
invariant-loop-n l = stands_once (drop l.n l.part) l.rule ≡ stands_once l.part l.rule
