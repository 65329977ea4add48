use Rattle.std.proofs.Common.{◌≡◌, ◌-◌, []}
use Rattle.class_read.specs.Reading.{repeated, collected}
use Rattle.class_read.specs.FirstFault.{handler_at}
use Rattle.class_read.proofs.code.handlers.Given as goal

abbrev pub invariant-handlers : goal.invariant-handlers
invariant-handlers l =
    repeated (collected (handler_at l.total l.pool)) (l.count - l.counter) l.table l.rest ≡ repeated
    (collected (handler_at l.total l.pool)) l.count [] l.bytes
