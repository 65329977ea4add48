use Rattle.std.proofs.Common.{◌≡◌, ◌++◌, drop}
use Rattle.descent.specs.Steps.{weak_ones}
use Rattle.chain_proofs.proofs.proving.weak_ones.Given as goal

abbrev pub invariant-loop-one : goal.invariant-loop-one
invariant-loop-one l = l.set ++ weak_ones (drop l.one-index l.listed) ≡ weak_ones l.listed
