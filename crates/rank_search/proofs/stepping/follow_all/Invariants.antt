use Rattle.std.proofs.Common.{None, [], pos}
use Rattle.rank_forms.specs.Following.{IsAlong, made}
use Rattle.rank_forms.proofs.Told.{AreTold}
use Rattle.rank_search.proofs.stepping.follow_all.Given as goal

abbrev pub invariant-loop-rule : goal.invariant-loop-rule
invariant-loop-rule l = AreTold (λ rule followed. IsAlong l.negative rule l.place followed) l.rules (made (pos 0) [] None) l.all
    l.rule-index
