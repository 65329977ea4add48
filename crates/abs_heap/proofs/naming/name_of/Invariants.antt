use Rattle.std.proofs.Common.{◌≡◌, drop}
use Rattle.abs_heap.specs.Names.{name_in}
use Rattle.abs_heap.proofs.naming.name_of.Given as goal

abbrev pub invariant-loop-old : goal.invariant-loop-old
invariant-loop-old l = name_in (drop l.old-index l.names) l.id ≡ name_in l.names l.id
