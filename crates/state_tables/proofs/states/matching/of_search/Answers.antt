use Rattle.state_tables.proofs.states.matching.of_search.Goals as goal

pub searched-requires-clause-reached : goal.searched-requires-clause-reached
searched-requires-clause-reached g c = c.dropped_states_reach_all.ensures c.args.b c.drop_unreached-all.result
    c.drop_unreached-all.ensures.dropped
