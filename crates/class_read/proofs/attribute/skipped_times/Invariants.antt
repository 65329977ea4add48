use Rattle.std.proofs.Common.{◌≡◌, ◌-◌}
use Rattle.class_read.specs.Reading.{repeated}
use Rattle.class_read.specs.FirstFault.{skipped_at}
use Rattle.class_read.proofs.attribute.skipped_times.Given as goal

abbrev pub invariant-attributes : goal.invariant-attributes
invariant-attributes l = repeated (skipped_at l.total l.pool) (l.count - l.counter) tt l.rest ≡ repeated (skipped_at l.total l.pool)
    l.count tt l.bytes
