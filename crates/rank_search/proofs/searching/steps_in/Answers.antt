use Rattle.std.proofs.Common.{refl}
use Rattle.rank_search.proofs.Lowered.{steps_told}
use Rattle.rank_search.proofs.Ranked.{steps_none}
use Rattle.rank_search.proofs.searching.steps_in.Goals as goal

pub returns-in-Some-clause-found : goal.returns-in-Some-clause-found
returns-in-Some-clause-found c = steps_told c.args.negative c.args.rules.now c.args.places.now c.args.weak.now c.args.strict.now
    c.in_ok-one.field-0 c.in-Some.one _ c.place_at.result c.in-Some.is c.in_ok-one.ensures.some c.requires.weak c.requires.strict
    c.place_at.ensures

pub returns-in-None-clause-none : goal.returns-in-None-clause-none
returns-in-None-clause-none c e = steps_none c.args.negative c.args.rules.now c.args.places.now c.args.weak.now c.args.strict.now _
    refl c.requires.places c.requires.weak c.requires.strict (c.in_ok-one.ensures.none c.in-None.is)
