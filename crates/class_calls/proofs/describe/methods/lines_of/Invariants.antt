use Rattle.std.proofs.Common.{◌≡◌, ◌++◌, map, drop}
use Rattle.class_read.specs.View.{method_content}
use Rattle.class_calls.specs.describe.Methods.{method_lines}
use Rattle.class_calls.proofs.describe.methods.lines_of.Given as goal

abbrev pub invariant-loop-method : goal.invariant-loop-method
invariant-loop-method l = l.lines.items ++ method_lines (map method_content (drop l.method-index l.methods)) ≡ method_lines
    (map method_content l.methods)
