use Rattle.input_fits.specs.inner.Words.{NameOne, AreListedWith}
use Rattle.input_fits.proofs.listed.are_listed_with.Given as goal

abbrev pub invariant-loop-j : goal.invariant-loop-j
invariant-loop-j l = AreListedWith NameOne l.values l.pairs l.i l.j
