use Rattle.std.proofs.Common.{refl, get_or}
use Rattle.class_world.specs.inner.Index.{field_key}
use Rattle.class_world.proofs.Keys.{names_more}
use Rattle.class_world.proofs.members.field_names.Goals as goal

pub loop-field-preserved : goal.loop-field-preserved
loop-field-preserved c = names_more field_key c.args.fields.now c.loop-field.field-index
    (get_or c.args.fields.now c.loop-field.field-index _) _ _ _ _ c.requires c.loop-field-test.true refl c.loop-field.invariant
    c.in_ok-add.ensures.keys c.in_ok-add.ensures.was_there
