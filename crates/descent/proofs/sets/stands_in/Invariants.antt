use Rattle.std.proofs.Common.{◌≡◌, drop}
use Rattle.descent.specs.Splits.{stands_in}
use Rattle.descent.proofs.sets.stands_in.Given as goal

abbrev pub invariant-loop-part : goal.invariant-loop-part
invariant-loop-part l = stands_in (drop l.part-index l.parts) l.rule ≡ stands_in l.parts l.rule
