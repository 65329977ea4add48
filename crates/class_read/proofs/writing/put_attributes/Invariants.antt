use Rattle.std.proofs.Common.{◌≡◌, ◌++◌, take}
use Rattle.std.specs.List.{flat_map}
use Rattle.class_read.specs.Text.{attribute_text}
use Rattle.class_read.proofs.writing.put_attributes.Given as goal

abbrev pub invariant-loop-a : goal.invariant-loop-a
invariant-loop-a l = l.out ≡ l.fn.out ++ flat_map attribute_text (take l.a-index l.attributes)
