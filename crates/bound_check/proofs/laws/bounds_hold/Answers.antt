use Rattle.bound_check.proofs.LawBounds.{bounds_hold}
use Rattle.bound_check.proofs.laws.bounds_hold.Goals as goal

pub returns : goal.returns
returns c = bounds_hold c.closed_proofs_end.ensures c.links_fit.ensures c.rules_fit.ensures c.steps_are_typed.ensures
    c.fitting_states_are_typed.ensures c.fitting_states_are_described.ensures c.walks_meet_rules.ensures c.graphs_hold_runs.ensures
    c.terms_fill_patterns.ensures
