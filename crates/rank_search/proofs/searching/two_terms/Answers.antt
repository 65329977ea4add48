use Rattle.std.proofs.Common.{rules, FitsSigned, w64, arith}
use Rattle.std.proofs.lemmas.Int.{ints}
use Rattle.rank_search.proofs.Lowered.{two_told}
use Rattle.rank_search.proofs.searching.two_terms.Goals as goal

pub returns : goal.returns
returns c =
    let f : FitsSigned w64 c.args.form.now.times = search rules in
    let g : FitsSigned w64 c.args.form.now.more = search rules in
    two_told c.args.rules.now c.args.places.now c.args.table.now c.args.form.now c.place_at.result c.place_at-2.result _ _ _ _ _
    c.new-terms.ensures c.in_ok-push.ensures.items c.in_ok-push-2.ensures.items (omega (arith, ints)) (omega (arith, ints))
    c.requires.table c.requires.found c.place_at.ensures c.place_at-2.ensures
