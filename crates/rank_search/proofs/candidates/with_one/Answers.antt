use Rattle.std.proofs.Common.{ℕ}
use Rattle.rank_search.specs.inner.Candidates.{NoneOfPair}
use Rattle.rank_search.proofs.Pairs.{one_more}
use Rattle.rank_search.proofs.candidates.with_one.Goals as goal

pub loop-other-preserved : goal.loop-other-preserved
loop-other-preserved c = one_more (λ (m : ℕ). NoneOfPair c.args.table.now c.args.one m 8) c.loop-other.other c.in_ok-found.found
    c.is_some.result c.is_some.ensures c.if-is_some.false c.in_ok-found.ensures.none c.loop-other.invariant
