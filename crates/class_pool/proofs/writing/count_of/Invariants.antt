use Rattle.std.proofs.Common.{◌≡◌, length, take}
use Rattle.class_pool.specs.Text.{places_of}
use Rattle.class_pool.proofs.writing.count_of.Given as goal

abbrev pub invariant-loop-entry : goal.invariant-loop-entry
invariant-loop-entry l = l.count ≡ length (places_of (take l.entry-index l.entries))
