use Rattle.std.proofs.Common.{refl}
use Rattle.rank_search.proofs.Ranked.{ints_none}
use Rattle.rank_search.proofs.searching.sum_in.Goals as goal

pub returns-in-None-clause-none : goal.returns-in-None-clause-none
returns-in-None-clause-none c e = ints_none c.args.rules.now c.args.places.now c.args.table.now _ _ refl refl c.requires.places
    c.requires.table c.requires.one (c.in_ok-form.ensures.none c.in-None.is)
