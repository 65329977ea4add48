use Rattle.cert_check.proofs.Ending.{runs_end}
use Rattle.cert_check.proofs.laws.certified_runs_end.Goals as goal

pub returns : goal.returns
returns c = runs_end c.steps_are_typed.ensures c.runs_are_never_stuck.ensures
    c.fitting_states_are_typed.ensures c.fitting_states_are_described.ensures c.walks_meet_rules.ensures c.graphs_hold_runs.ensures
