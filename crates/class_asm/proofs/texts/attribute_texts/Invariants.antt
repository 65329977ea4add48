use Rattle.std.proofs.Common.{◌≡◌, take, map}
use Rattle.class_asm.specs.Classes.{attribute_text}
use Rattle.class_asm.proofs.texts.attribute_texts.Given as goal

abbrev pub invariant-loop-a : goal.invariant-loop-a
invariant-loop-a l = l.texts ≡ map (attribute_text l.pool) (take l.a-index l.attributes)
