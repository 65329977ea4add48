use Rattle.input_fits.proofs.Rising.{NoneCommon}
use Rattle.input_fits.proofs.regions.have_common.Given as goal

abbrev pub invariant-loop-number : goal.invariant-loop-number
invariant-loop-number l = NoneCommon l.a l.b l.number-index
