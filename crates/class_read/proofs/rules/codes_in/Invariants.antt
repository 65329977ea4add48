use Rattle.std.proofs.Common.{◌≡◌, ◌≤◌, ◌+◌, length, drop}
use Rattle.class_read.specs.Rules.{codes_in}
use Rattle.class_read.proofs.rules.codes_in.Given as goal

abbrev pub invariant-loop-a : goal.invariant-loop-a
invariant-loop-a l = record {
  small : l.count ≤ l.a-index;
  same : l.count + length (codes_in (drop l.a-index l.attributes)) ≡ length (codes_in l.attributes);
}
