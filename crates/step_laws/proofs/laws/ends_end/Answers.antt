use Rattle.step_laws.proofs.Going.{ended}
use Rattle.step_laws.proofs.laws.ends_end.Goals as goal

pub returns : goal.returns
returns c = ended c.steps_are_typed.ensures c.low_laws.ensures c.no_interface_is_below_a_class.ensures
