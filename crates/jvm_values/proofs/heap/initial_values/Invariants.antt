use Rattle.std.proofs.Common.{◌≡◌, ◌++◌, map, drop}
use Rattle.jvm_values.specs.Slots.{initial_value}
use Rattle.jvm_values.proofs.heap.initial_values.Given as goal

-- what is there and what is to come are all
abbrev pub invariant-loop-slot : goal.invariant-loop-slot
invariant-loop-slot l = l.values ++ map initial_value (drop l.slot-index l.slots) ≡ map initial_value l.slots
