use Rattle.std.proofs.Common.{◌≡◌, map, take}
use Rattle.class_pool.specs.Text.{places_of}
use Rattle.class_read.specs.inner.Known.{place_kinds}
use Rattle.class_read.proofs.known.all_kinds.Given as goal

abbrev pub invariant-places : goal.invariant-places
invariant-places l = l.kinds.items ≡ map place_kinds (take l.i (places_of l.pool))
