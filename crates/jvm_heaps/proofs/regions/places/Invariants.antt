use Rattle.std.proofs.Common.{◌≡◌, drop, ◌++◌}
use Rattle.jvm_heaps.specs.Regions.{marked_from}
use Rattle.jvm_heaps.proofs.regions.places.Given as goal

abbrev pub invariant-loop-a : goal.invariant-loop-a
invariant-loop-a l = l.numbers ++ marked_from l.a (drop l.a l.marks) ≡ marked_from 0 l.marks
