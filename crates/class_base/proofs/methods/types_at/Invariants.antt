use Rattle.std.proofs.Common.{◌≡◌, ◌-◌, [], length}
use Rattle.class_base.specs.MethodTypes.{types_at}
use Rattle.class_base.proofs.Turns.{gathered, with_type}
use Rattle.class_base.proofs.methods.types_at.Given as goal

abbrev pub invariant-turns : goal.invariant-turns
invariant-turns l = gathered with_type l.types (types_at (length l.bytes - l.counter) l.rest) ≡ gathered with_type []
    (types_at (length l.bytes) l.bytes)
