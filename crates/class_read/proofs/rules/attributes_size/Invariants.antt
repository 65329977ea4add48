use Rattle.std.proofs.Common.{◌≡◌, ◌≤◌, ◌+◌, ◌*◌, ◌^◌, length, drop}
use Rattle.std.specs.List.{flat_map}
use Rattle.class_read.specs.Text.{attribute_text}
use Rattle.class_read.proofs.rules.attributes_size.Given as goal

abbrev pub invariant-loop-a : goal.invariant-loop-a
invariant-loop-a l = record {
  small : l.size ≤ 2 ^ 33 * l.a-index;
  same : l.size + length (flat_map attribute_text (drop l.a-index l.attributes)) ≡ length (flat_map attribute_text l.attributes);
}
