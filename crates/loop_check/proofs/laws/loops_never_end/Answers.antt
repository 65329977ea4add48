use Rattle.loop_check.proofs.Lasting.{never_end}
use Rattle.loop_check.proofs.laws.loops_never_end.Goals as goal

pub returns : goal.returns
returns c = never_end c.steps_are_typed.ensures c.fitting_states_are_typed.ensures c.fitting_states_are_described.ensures
    c.graphs_hold_runs.ensures
