use Rattle.std.proofs.Common.{◌≡◌, drop}
use Rattle.lin_core.specs.Sums.{variables}
use Rattle.bound_check.specs.Entries.{rules_fault}
use Rattle.bound_check.proofs.entries.rules_fault.Given as goal

abbrev pub invariant-loop-number : goal.invariant-loop-number
invariant-loop-number g l = record {
  fault : rules_fault (g.O.Order.weak_says l.order) l.n l.set l.entry l.number (drop l.number l.rules)
      ≡ rules_fault (g.O.Order.weak_says l.order) l.n l.set l.entry 0 l.rules;
  over : variables l.scratch ≡ variables l.initial.scratch;
}
