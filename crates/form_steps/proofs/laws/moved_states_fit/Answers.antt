use Rattle.form_steps.proofs.Steps.{repositioned}
use Rattle.form_steps.proofs.laws.moved_states_fit.Goals as goal

pub returns : goal.returns
returns c = repositioned
