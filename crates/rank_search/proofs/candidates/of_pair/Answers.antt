use Rattle.std.proofs.Common.{rules, FitsSigned, to_z-of_z, w64, ◌∙◌}
use Rattle.rank_search.proofs.Pairs.{pair_more}
use Rattle.rank_search.proofs.candidates.of_pair.Goals as goal

pub loop-n-preserved : goal.loop-n-preserved
loop-n-preserved c =
    let f : FitsSigned w64 c.multiple_of-times.result = search rules in
    pair_more c.args.table.now c.args.one c.args.other c.loop-n.n _ c.in_ok-found.found c.is_some.result
    (to_z-of_z f ∙ c.multiple_of-times.ensures.value) c.is_some.ensures c.if-is_some.false c.in_ok-found.ensures.none
    c.loop-n.invariant
