use Rattle.std.proofs.Common.{◌≡◌, drop}
use Rattle.lin_core.specs.Weights.{weight_in}
use Rattle.lin_core.proofs.weighing.weight_of.Given as goal

abbrev pub invariant-loop-listed : goal.invariant-loop-listed
invariant-loop-listed l = weight_in (drop l.listed-index l.weights) l.class ≡ weight_in l.weights l.class
