use Rattle.std.proofs.Common.{◌≡◌, take}
use Rattle.std.specs.Prelude.{map}
use Rattle.class_world.specs.inner.Index.{method_key}
use Rattle.class_world.proofs.members.method_names.Given as goal

abbrev pub invariant-loop-method : goal.invariant-loop-method
invariant-loop-method l = l.names ≡ map method_key (take l.method-index l.methods)
