use Rattle.std.proofs.Common.{◌≡◌, drop}
use Rattle.lin_core.specs.Sums.{variables}
use Rattle.descent.specs.Steps.{rank_fault}
use Rattle.descent.proofs.steps.rank_fault.Given as goal

abbrev pub invariant-loop-n : goal.invariant-loop-n
invariant-loop-n g l = record {
  fault : rank_fault (g.O.Order.weak_says l.order) (g.O.Order.strict_says l.order) (g.O.Order.bounded_says l.order) l.rules
      (drop l.n l.set) (drop l.n l.listed) ≡ rank_fault (g.O.Order.weak_says l.order) (g.O.Order.strict_says l.order)
      (g.O.Order.bounded_says l.order) l.rules l.set l.listed;
  over : variables l.scratch ≡ variables l.initial.scratch;
}
