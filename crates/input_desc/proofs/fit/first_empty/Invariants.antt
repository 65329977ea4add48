use Rattle.std.proofs.Common.{◌≡◌, drop}
use Rattle.input_desc.specs.Typed.{first_unfit}
use Rattle.input_desc.specs.Descs.{has_ints}
use Rattle.input_desc.proofs.fit.first_empty.Given as goal

abbrev pub invariant-loop-n : goal.invariant-loop-n
invariant-loop-n l = first_unfit has_ints l.n (drop l.n l.wanted) (drop l.n l.found) ≡ first_unfit has_ints 0 l.wanted l.found
