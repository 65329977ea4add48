use Rattle.std.proofs.Common.{◌≡◌, map, take}
use Rattle.std.specs.Option.{option_map}
use Rattle.abs_heap.specs.Names.{name_in}
use Rattle.abs_heap.proofs.naming.named_locals.Given as goal

abbrev pub invariant-loop-local : goal.invariant-loop-local
invariant-loop-local l = l.named ≡ map (option_map (name_in l.names)) (take l.local-index l.locals)
