use Rattle.std.proofs.Common.{◌≡◌, drop}
use Rattle.std.specs.List.{list_any}
use Rattle.abs_widen.specs.Widening.{clashes_with}
use Rattle.abs_widen.proofs.clashes.some_clashes.Given as goal

abbrev pub invariant-loop-other : goal.invariant-loop-other
invariant-loop-other g l = list_any (clashes_with l.a l.b l.pair) l.pairs ≡ list_any (clashes_with l.a l.b l.pair)
    (drop l.other-index l.pairs)
