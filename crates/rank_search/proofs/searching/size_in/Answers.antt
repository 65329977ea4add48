use Rattle.std.proofs.Common.{refl}
use Rattle.rank_search.proofs.Lowered.{size_told}
use Rattle.rank_search.proofs.Ranked.{size_none}
use Rattle.rank_search.proofs.searching.size_in.Goals as goal

pub returns-in-Some-clause-found : goal.returns-in-Some-clause-found
returns-in-Some-clause-found c = size_told c.args.rules.now c.args.places.now c.args.table.now c.in_ok-one.field-0 c.in-Some.one _
    c.place_at.result c.in-Some.is c.in_ok-one.ensures.some c.requires.table c.place_at.ensures

pub returns-in-None-clause-none : goal.returns-in-None-clause-none
returns-in-None-clause-none c e = size_none c.args.rules.now c.args.places.now c.args.table.now _ refl c.requires.places
    c.requires.table (c.in_ok-one.ensures.none c.in-None.is)
