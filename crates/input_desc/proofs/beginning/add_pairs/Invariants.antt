use Rattle.std.proofs.Common.{◌≡◌, drop}
use Rattle.input_desc.specs.Initial.{with_pairs}
use Rattle.input_desc.proofs.beginning.add_pairs.Given as goal

abbrev pub invariant-loop-pair : goal.invariant-loop-pair
invariant-loop-pair g l = with_pairs (g.P.Pairs.pairs l.pairs) (drop l.pair-index l.more) ≡ with_pairs
    (g.P.Pairs.pairs l.initial.pairs) l.more
