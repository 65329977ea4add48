use Rattle.std.proofs.Common.{◌≡◌, ◌++◌, drop}
use Rattle.descent.specs.inner.Placed.{placed_of}
use Rattle.descent.proofs.sets.placed.Given as goal

abbrev pub invariant-loop-rule : goal.invariant-loop-rule
invariant-loop-rule l = l.placed ++ placed_of l.parts (drop l.rule-index l.set) ≡ placed_of l.parts l.set
