use Rattle.input_root.proofs.Rooted.{described}
use Rattle.input_root.proofs.laws.fitting_states_are_described.Goals as goal

pub returns : goal.returns
returns c = described
