use Rattle.input_fits.specs.inner.Words.{NameOne, AreListedBefore}
use Rattle.input_fits.proofs.listed.are_same_listed.Given as goal

abbrev pub invariant-loop-i : goal.invariant-loop-i
invariant-loop-i l = AreListedBefore NameOne l.values l.pairs l.i
