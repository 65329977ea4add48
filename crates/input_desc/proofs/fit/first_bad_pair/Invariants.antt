use Rattle.std.proofs.Common.{◌≡◌, drop}
use Rattle.std.specs.List.{position_from}
use Rattle.input_desc.specs.Pairs.{is_no_pair}
use Rattle.input_desc.proofs.fit.first_bad_pair.Given as goal

abbrev pub invariant-loop-n : goal.invariant-loop-n
invariant-loop-n l = position_from (is_no_pair l.wanted) l.n (drop l.n l.pairs) ≡ position_from (is_no_pair l.wanted) 0 l.pairs
