use Rattle.std.proofs.Common.{drop}
use Rattle.input_desc.specs.Fitting.{IsListed}
use Rattle.input_fits.proofs.listed.is_listed.Given as goal

abbrev pub invariant-loop-pair : goal.invariant-loop-pair
invariant-loop-pair l = IsListed l.i l.j l.pairs → IsListed l.i l.j (drop l.pair-index l.pairs)
