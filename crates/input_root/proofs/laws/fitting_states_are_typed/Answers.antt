use Rattle.input_root.proofs.Rooted.{typed}
use Rattle.input_root.proofs.laws.fitting_states_are_typed.Goals as goal

pub returns : goal.returns
returns c = typed
