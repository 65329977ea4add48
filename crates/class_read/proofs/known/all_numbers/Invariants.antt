use Rattle.std.proofs.Common.{◌≡◌, map, take}
use Rattle.class_pool.specs.Text.{places_of}
use Rattle.class_read.specs.inner.Numbers.{place_number, kept_place, KeepsFirst}
use Rattle.class_read.proofs.known.all_numbers.Given as goal

abbrev pub invariant-places : goal.invariant-places
invariant-places l = record {
  numbers : l.numbers.items ≡ map (place_number (places_of l.pool)) (take l.i (places_of l.pool));
  kept : KeepsFirst (places_of l.pool) l.i (λ t. kept_place (λ k. k.now) l.first t);
}
