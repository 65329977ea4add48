use Rattle.rank_search.proofs.Ranked.{none_stepwise}
use Rattle.rank_search.proofs.searching.negative_form.Goals as goal

pub returns-in-None-clause-none : goal.returns-in-None-clause-none
returns-in-None-clause-none c e = none_stepwise c.args.rules.now c.requires (c.in_ok-place.ensures.none c.in-None.is)
