use Rattle.std.proofs.Common.{◌≡◌, drop}
use Rattle.input_desc.specs.Typed.{first_unfit}
use Rattle.input_desc.specs.Descs.{is_alike}
use Rattle.input_desc.proofs.fit.first_not_alike.Given as goal

abbrev pub invariant-loop-n : goal.invariant-loop-n
invariant-loop-n l = first_unfit is_alike l.n (drop l.n l.wanted) (drop l.n l.inputs) ≡ first_unfit is_alike 0 l.wanted l.inputs
