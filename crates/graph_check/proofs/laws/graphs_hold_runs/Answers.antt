use Rattle.graph_check.proofs.Following.{hold_runs}
use Rattle.graph_check.proofs.laws.graphs_hold_runs.Goals as goal

pub returns : goal.returns
returns c = hold_runs c.ends_end.ensures c.steps_fit_children.ensures c.matches_carry_fitting.ensures
