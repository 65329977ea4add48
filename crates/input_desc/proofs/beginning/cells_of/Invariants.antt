use Rattle.std.proofs.Common.{◌≡◌, ◌++◌, drop}
use Rattle.input_desc.specs.Initial.{cells_from}
use Rattle.input_desc.proofs.beginning.cells_of.Given as goal

abbrev pub invariant-loop-n : goal.invariant-loop-n
invariant-loop-n l = l.cells ++ cells_from l.n (drop l.n l.inputs) ≡ cells_from 0 l.inputs
