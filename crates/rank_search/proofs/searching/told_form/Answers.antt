use Rattle.rank_search.proofs.searching.told_form.Goals as goal

pub size_plain-requires-clause-ints : goal.size_plain-requires-clause-ints
size_plain-requires-clause-ints c = c.in_ok-form.ensures.none c.in-None.is
