use Rattle.rank_search.proofs.searching.size_plain.Goals as goal

pub returns-in-None-clause-none : goal.returns-in-None-clause-none
returns-in-None-clause-none c e = record { ints = c.requires.ints; sizes = c.in_ok-place.ensures.none c.in-None.is }
