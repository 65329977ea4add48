use Rattle.input_fits.specs.inner.Words.{HaveCommon, AreListedWith}
use Rattle.input_fits.proofs.regions.are_listed_with.Given as goal

abbrev pub invariant-loop-j : goal.invariant-loop-j
invariant-loop-j l = AreListedWith HaveCommon l.lists l.pairs l.i l.j
