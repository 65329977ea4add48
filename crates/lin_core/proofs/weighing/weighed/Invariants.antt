use Rattle.std.proofs.Common.{drop}
use Rattle.lin_core.specs.Weights.{weight_in}
use Rattle.lin_core.proofs.Weighs.{IsWeighed}
use Rattle.lin_core.proofs.weighing.weighed.Given as goal

abbrev pub invariant-loop-class : goal.invariant-loop-class
invariant-loop-class l = IsWeighed (weight_in l.weights) l.multiples (drop l.class-index l.multiples) l.sum
