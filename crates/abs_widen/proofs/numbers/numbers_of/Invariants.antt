use Rattle.std.proofs.Common.{◌≡◌, ◌++◌, drop, map, zip}
use Rattle.abs_widen.specs.Widening.{number_of}
use Rattle.abs_widen.proofs.numbers.numbers_of.Given as goal

abbrev pub invariant-loop-n : goal.invariant-loop-n
invariant-loop-n l = l.numbers.items ++ map (number_of l.pairs) (zip (drop l.n l.ids) (drop l.n l.others)) ≡ map (number_of l.pairs)
    (zip l.ids l.others)
