use Rattle.std.proofs.Common.{◌≡◌, ◌++◌, drop, map, zip}
use Rattle.std.specs.Option.{option_map}
use Rattle.abs_widen.specs.Visits.{local_pair}
use Rattle.abs_widen.specs.Widening.{number_of, merged_locals}
use Rattle.abs_widen.proofs.numbers.merged_locals.Given as goal

abbrev pub invariant-loop-n : goal.invariant-loop-n
invariant-loop-n g l = l.merged.items ++ map (λ both. option_map (number_of l.pairs) (local_pair l.a l.b both.0 both.1))
    (zip (drop l.n l.locals) (drop l.n l.others)) ≡ merged_locals l.a l.b l.pairs l.locals l.others
