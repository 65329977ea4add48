use Rattle.jvm_heaps.proofs.DagTurns.{IsSearch, turns_left}
use Rattle.jvm_heaps.proofs.dags.is_acyclic.Given as goal

abbrev pub invariant-loop-next : goal.invariant-loop-next
invariant-loop-next l = IsSearch l.heap l.fn.start (record { entered = l.entered.items; left = l.left.items; todo = l.todo.0 })

abbrev pub decreases-loop-next : goal.decreases-loop-next
decreases-loop-next l = turns_left l.heap l.entered.items l.todo.0
