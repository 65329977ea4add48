use Rattle.abs_widen.specs.inner.Pairing.{WantsOne, WantsShare, AreJoinedTo}
use Rattle.abs_widen.proofs.pairing.joined.Given as goal

abbrev pub invariant-loop-n : goal.invariant-loop-n
invariant-loop-n g l = AreJoinedTo (WantsOne l.a l.b l.pairs l.cells) l.n 0 (g.P.Pairs.pairs l.eq)
    × AreJoinedTo (WantsShare l.a l.b l.pairs l.cells) l.n 0 (g.P.Pairs.pairs l.shared)
