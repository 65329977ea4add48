use Rattle.std.proofs.Common.{◌≡◌, take, map}
use Rattle.class_asm.specs.Classes.{field_text}
use Rattle.class_asm.proofs.texts.field_texts.Given as goal

abbrev pub invariant-loop-f : goal.invariant-loop-f
invariant-loop-f l = l.texts ≡ map (field_text l.pool) (take l.f-index l.fields)
