use Rattle.throw_report.proofs.Walking.{certified_end_reported}
use Rattle.throw_report.proofs.laws.certified_runs_end_as_reported.Goals as goal

pub returns : goal.returns
returns c = certified_end_reported c.steps_are_typed.ensures c.fitting_states_are_typed.ensures c.fitting_states_are_described.ensures
    c.walks_meet_rules.ensures c.graphs_hold_runs.ensures
