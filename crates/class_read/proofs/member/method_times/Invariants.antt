use Rattle.std.proofs.Common.{◌≡◌, ◌-◌, [], map}
use Rattle.class_read.specs.inner.Numbers.{keys_in, AreNumbers}
use Rattle.class_read.specs.Reading.{repeated}
use Rattle.class_read.specs.View.{method_content}
use Rattle.class_read.specs.FirstFault.{more_methods_at, method_keys}
use Rattle.class_read.proofs.Members.{SameKeys}
use Rattle.class_read.proofs.member.method_times.Given as goal

abbrev pub invariant-methods : goal.invariant-methods
invariant-methods l = record {
  numbers : AreNumbers l.pool l.seen;
  keys : SameKeys (keys_in l.pool l.seen) (method_keys (map method_content l.methods));
  same : repeated (more_methods_at l.total l.pool) (l.count - l.counter) (map method_content l.methods) l.rest ≡ repeated
      (more_methods_at l.total l.pool) l.count [] l.bytes;
}
