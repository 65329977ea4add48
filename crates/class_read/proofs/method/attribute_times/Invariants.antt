use Rattle.std.proofs.Common.{◌≡◌, ◌-◌, None}
use Rattle.class_read.specs.Reading.{repeated}
use Rattle.class_read.specs.View.{code_contents}
use Rattle.class_read.specs.FirstFault.{method_attribute_at}
use Rattle.class_read.proofs.method.attribute_times.Given as goal

abbrev pub invariant-attributes : goal.invariant-attributes
invariant-attributes l =
    repeated (method_attribute_at l.total l.pool l.coded) (l.count - l.counter) (code_contents l.found) l.rest ≡ repeated
    (method_attribute_at l.total l.pool l.coded) l.count None l.bytes
