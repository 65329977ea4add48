use Rattle.std.proofs.Common.{◌≡◌, ◌++◌, take}
use Rattle.std.specs.List.{flat_map}
use Rattle.class_read.specs.Text.{attr_text}
use Rattle.class_read.proofs.writing.put_attrs.Given as goal

abbrev pub invariant-loop-attr : goal.invariant-loop-attr
invariant-loop-attr l = l.out ≡ l.fn.out ++ flat_map attr_text (take l.attr-index l.attrs)
