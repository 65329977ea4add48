use Rattle.desc_steps.proofs.Fitting.{some_fits}
use Rattle.desc_steps.proofs.laws.some_state_fits.Goals as goal

pub returns : goal.returns
returns c = some_fits
