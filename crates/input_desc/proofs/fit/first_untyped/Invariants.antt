use Rattle.std.proofs.Common.{◌≡◌, drop}
use Rattle.input_desc.specs.Typed.{first_unfit}
use Rattle.input_desc.specs.Descs.{has_a_type}
use Rattle.input_desc.proofs.fit.first_untyped.Given as goal

abbrev pub invariant-loop-n : goal.invariant-loop-n
invariant-loop-n l = first_unfit has_a_type l.n (drop l.n l.wanted) (drop l.n l.found) ≡ first_unfit has_a_type 0 l.wanted l.found
