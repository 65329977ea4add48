use Rattle.std.proofs.Common.{◌≡◌, drop}
use Rattle.descent.specs.inner.Marking.{all_light}
use Rattle.descent.proofs.passing.all_light.Given as goal

abbrev pub invariant-loop-n : goal.invariant-loop-n
invariant-loop-n l = all_light l.rules (drop l.n l.parts) (drop l.n l.steps) ≡ all_light l.rules l.parts l.steps
