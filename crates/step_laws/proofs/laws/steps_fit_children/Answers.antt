use Rattle.step_laws.proofs.Going.{gone_on}
use Rattle.step_laws.proofs.laws.steps_fit_children.Goals as goal

pub returns : goal.returns
returns c = gone_on c.steps_are_typed.ensures c.low_laws.ensures c.no_interface_is_below_a_class.ensures
