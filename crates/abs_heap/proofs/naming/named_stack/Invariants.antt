use Rattle.std.proofs.Common.{◌≡◌, map, take}
use Rattle.abs_heap.specs.Names.{name_in}
use Rattle.abs_heap.proofs.naming.named_stack.Given as goal

abbrev pub invariant-loop-id : goal.invariant-loop-id
invariant-loop-id l = l.named ≡ map (name_in l.names) (take l.id-index l.stack)
