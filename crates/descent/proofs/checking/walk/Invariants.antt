use Rattle.std.proofs.Common.{◌≡◌, drop}
use Rattle.lin_core.specs.Sums.{variables}
use Rattle.descent.specs.Steps.{first_fault_from, proof_fault}
use Rattle.descent.proofs.checking.walk.Given as goal

abbrev pub invariant-loop-n : goal.invariant-loop-n
invariant-loop-n l = record {
  fault : first_fault_from l.rules l.n l.given.items (drop l.n l.steps) ≡ proof_fault l.rules l.steps;
  over : variables l.scratch ≡ variables l.initial.scratch;
}
