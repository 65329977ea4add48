use Rattle.abs_widen.specs.inner.Pairing.{WantsOne, WantsShare, AreJoinedTo}
use Rattle.abs_widen.proofs.pairing.join_below.Given as goal

abbrev pub invariant-loop-m : goal.invariant-loop-m
invariant-loop-m g l = AreJoinedTo (WantsOne l.a l.b l.pairs l.cells) l.n l.m (g.P.Pairs.pairs l.eq)
    × AreJoinedTo (WantsShare l.a l.b l.pairs l.cells) l.n l.m (g.P.Pairs.pairs l.shared)
