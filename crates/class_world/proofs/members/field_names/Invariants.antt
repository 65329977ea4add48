use Rattle.std.proofs.Common.{◌≡◌, take}
use Rattle.std.specs.Prelude.{map}
use Rattle.class_world.specs.inner.Index.{field_key}
use Rattle.class_world.proofs.members.field_names.Given as goal

abbrev pub invariant-loop-field : goal.invariant-loop-field
invariant-loop-field l = l.names ≡ map field_key (take l.field-index l.fields)
