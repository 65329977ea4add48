use Rattle.std.proofs.Common.{◌≡◌, drop}
use Rattle.descent.specs.Splits.{place_from}
use Rattle.descent.proofs.sets.place_in.Given as goal

abbrev pub invariant-loop-n : goal.invariant-loop-n
invariant-loop-n l = place_from l.n (drop l.n l.parts) l.rule ≡ place_from 0 l.parts l.rule
