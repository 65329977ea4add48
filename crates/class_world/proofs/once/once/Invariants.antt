use Rattle.std.proofs.Common.{◌≡◌, drop}
use Rattle.class_world.specs.inner.Once.{with_numbers, once}
use Rattle.class_world.proofs.once.once.Given as goal

abbrev pub invariant-loop-number : goal.invariant-loop-number
invariant-loop-number l = record {
  same : l.seen.keys ≡ l.found;
  more : with_numbers l.found (drop l.number-index l.numbers) ≡ once l.numbers;
}
