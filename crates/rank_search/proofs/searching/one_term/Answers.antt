use Rattle.std.proofs.Common.{rules, FitsSigned, w64, arith}
use Rattle.std.proofs.lemmas.Int.{ints}
use Rattle.rank_search.proofs.Lowered.{one_told}
use Rattle.rank_search.proofs.searching.one_term.Goals as goal

pub returns : goal.returns
returns c =
    let f : FitsSigned w64 c.args.form.now.times = search rules in
    one_told c.args.rules.now c.args.places.now c.args.table.now c.args.form.now c.place_at.result _ _ _ c.new-terms.ensures
    c.in_ok-push.ensures.items (omega (arith, ints)) c.requires.table c.requires.found c.place_at.ensures
