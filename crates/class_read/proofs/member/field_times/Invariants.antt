use Rattle.std.proofs.Common.{◌≡◌, ◌-◌, [], map}
use Rattle.class_read.specs.inner.Numbers.{keys_in, AreNumbers}
use Rattle.class_read.specs.Reading.{repeated}
use Rattle.class_read.specs.View.{field_content}
use Rattle.class_read.specs.FirstFault.{more_fields_at, field_keys}
use Rattle.class_read.proofs.Members.{SameKeys}
use Rattle.class_read.proofs.member.field_times.Given as goal

abbrev pub invariant-fields : goal.invariant-fields
invariant-fields l = record {
  numbers : AreNumbers l.pool l.seen;
  keys : SameKeys (keys_in l.pool l.seen) (field_keys (map field_content l.fields));
  same : repeated (more_fields_at l.total l.pool) (l.count - l.counter) (map field_content l.fields) l.rest ≡ repeated
      (more_fields_at l.total l.pool) l.count [] l.bytes;
}
