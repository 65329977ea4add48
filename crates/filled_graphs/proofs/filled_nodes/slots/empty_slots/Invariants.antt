use Rattle.filled_graphs.specs.filled_nodes.inner.Slots.{AreEmpty}
use Rattle.filled_graphs.proofs.filled_nodes.slots.empty_slots.Given as goal

abbrev pub invariant-loop : goal.invariant-loop
invariant-loop g l = AreEmpty l.slots l.counter
