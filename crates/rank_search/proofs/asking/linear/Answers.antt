use Rattle.rank_search.proofs.asking.linear.Goals as goal

pub told_several-requires-clause-none : goal.told_several-requires-clause-none
told_several-requires-clause-none c = c.in_ok-form.ensures.none c.in-None.is
