use Rattle.std.proofs.Common.{◌+◌, arith, sym}
use Rattle.std.specs.Prelude.{map}
use Rattle.class_read.specs.View.{field_content}
use Rattle.class_world.specs.inner.Index.{kept_before}
use Rattle.class_world.proofs.Indexes.{kept_none, kept_step, kept_most, counts_first, counts_more}
use Rattle.class_world.proofs.roster.Roster.kept_counts.Goals as goal

pub loop-field-init : goal.loop-field-init
loop-field-init c =
    let world = c.args.self.now.classes in
    let fields = map field_content c.args.fields.now in
    record {
      kept = sym (kept_none world fields);
      counts = counts_first (kept_before world fields) _ _ c.new-counts.ensures c.in_ok-push.ensures.items (kept_none world fields);
    }

pub kept_with-kept-requires : goal.kept_with-kept-requires
kept_with-kept-requires c = omega (
  arith,
  c.requires,
  c.loop-field-test.true,
  c.loop-field.invariant.kept,
  kept_most
      c.args.self.now.classes (map field_content c.args.fields.now) c.loop-field.field-index,
)

pub loop-field-preserved : goal.loop-field-preserved
loop-field-preserved c =
    let world = c.args.self.now.classes in
    let more = kept_step world c.args.fields.now c.loop-field.field-index c.loop-field.kept c.kept_with-kept.result _
    c.loop-field-test.true c.loop-field.invariant.kept c.kept_with-kept.ensures in
    record {
      kept = more;
      counts = counts_more (kept_before world (map field_content c.args.fields.now)) (c.loop-field.field-index + 1) _ _ _
          c.loop-field.invariant.counts c.in_ok-push-2.ensures.items more;
    }
