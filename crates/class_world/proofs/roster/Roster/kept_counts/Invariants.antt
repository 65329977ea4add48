use Rattle.std.proofs.Common.{◌≡◌, ◌+◌}
use Rattle.std.specs.Prelude.{map}
use Rattle.class_read.specs.View.{field_content}
use Rattle.class_world.specs.inner.Index.{kept_before}
use Rattle.class_world.specs.inner.Tables.{values_to}
use Rattle.class_world.proofs.roster.Roster.kept_counts.Given as goal

abbrev pub invariant-loop-field : goal.invariant-loop-field
invariant-loop-field l = record {
  kept : l.kept ≡ kept_before l.self.classes (map field_content l.fields) l.field-index;
  counts : l.counts ≡ values_to (kept_before l.self.classes (map field_content l.fields)) (l.field-index + 1);
}
