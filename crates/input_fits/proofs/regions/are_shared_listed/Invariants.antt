use Rattle.input_fits.specs.inner.Words.{HaveCommon, AreListedBefore}
use Rattle.input_fits.proofs.regions.are_shared_listed.Given as goal

abbrev pub invariant-loop-i : goal.invariant-loop-i
invariant-loop-i l = AreListedBefore HaveCommon l.lists l.pairs l.i
