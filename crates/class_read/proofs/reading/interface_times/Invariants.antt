use Rattle.std.proofs.Common.{◌≡◌, ◌-◌, map}
use Rattle.class_read.specs.Reading.{repeated, collected}
use Rattle.class_read.specs.FirstFault.{class_index_at}
use Rattle.class_read.proofs.reading.interface_times.Given as goal

abbrev pub invariant-interfaces : goal.invariant-interfaces
invariant-interfaces l =
    repeated (collected (class_index_at l.total l.pool)) (l.count - l.counter) (map (λ i. i.now) l.interfaces) l.rest
    ≡ repeated (collected (class_index_at l.total l.pool)) l.count (map (λ i. i.now) l.fn.interfaces) l.bytes
