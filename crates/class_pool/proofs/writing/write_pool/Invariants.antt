use Rattle.std.proofs.Common.{◌≡◌, ◌++◌, length, take}
use Rattle.class_pool.specs.Text.{places_of, counted_bytes}
use Rattle.class_pool.proofs.writing.write_pool.Given as goal

abbrev pub invariant-loop-entry : goal.invariant-loop-entry
invariant-loop-entry l = l.out ≡ l.fn.out ++ counted_bytes (length (places_of l.entries)) (take l.entry-index l.entries)
