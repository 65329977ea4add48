use Rattle.std.proofs.Common.{◌≡◌, drop}
use Rattle.abs_heap.specs.Writing.{is_renamed}
use Rattle.abs_heap.proofs.rewriting.is_renamed.Given as goal

abbrev pub invariant-loop-old : goal.invariant-loop-old
invariant-loop-old l = is_renamed (drop l.old-index l.names) l.id ≡ is_renamed l.names l.id
