use Rattle.std.proofs.Common.{◌≡◌, drop}
use Rattle.std.specs.Prelude.{map}
use Rattle.std.specs.List.{list_any}
use Rattle.class_read.specs.View.{method_content}
use Rattle.class_world.specs.Resolve.{is_initialiser}
use Rattle.class_world.proofs.index.has_initialiser.Given as goal

abbrev pub invariant-loop-method : goal.invariant-loop-method
invariant-loop-method l = list_any is_initialiser (map method_content (drop l.method-index l.methods)) ≡ list_any is_initialiser
    (map method_content l.methods)
