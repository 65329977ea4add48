use Rattle.rank_search.proofs.searching.stepwise_form.Goals as goal

pub negative_form-requires : goal.negative_form-requires
negative_form-requires c = c.in_ok-place.ensures.none c.in-None.is
