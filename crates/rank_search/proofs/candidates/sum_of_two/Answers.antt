use Rattle.std.proofs.Common.{ℕ}
use Rattle.rank_search.specs.inner.Candidates.{NoneWithOne}
use Rattle.rank_search.proofs.Pairs.{one_more}
use Rattle.rank_search.proofs.candidates.sum_of_two.Goals as goal

pub loop-one-preserved : goal.loop-one-preserved
loop-one-preserved c = one_more (λ (m : ℕ). NoneWithOne c.args.table.now m c.args.count) c.loop-one.one c.in_ok-found.found
    c.is_some.result c.is_some.ensures c.if-is_some.false c.in_ok-found.ensures.none c.loop-one.invariant
