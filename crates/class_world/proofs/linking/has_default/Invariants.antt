use Rattle.std.proofs.Common.{◌≡◌, drop}
use Rattle.std.specs.Prelude.{map}
use Rattle.std.specs.List.{list_any}
use Rattle.class_read.specs.View.{method_content}
use Rattle.class_world.specs.Linking.{is_default}
use Rattle.class_world.proofs.linking.has_default.Given as goal

abbrev pub invariant-loop-method : goal.invariant-loop-method
invariant-loop-method l = list_any is_default (map method_content (drop l.method-index l.methods)) ≡ list_any is_default
    (map method_content l.methods)
