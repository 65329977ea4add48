use Rattle.std.proofs.Common.{◌++◌, ap, ◌∙◌}
use Rattle.std.specs.Option.{option_to_list}
use Rattle.class_program.specs.Statics.{SameFields, field_named}
use Rattle.class_program.proofs.StaticLists.{same_added, same_kept, fields_step}
use Rattle.class_program.proofs.statics.add_fields.Goals as goal
use Rattle.class_program.proofs.statics.add_fields.Goals.{in-Some+in_ok-add, in_default}

pub loop-insn-preserved : goal.loop-insn-preserved
loop-insn-preserved c =
    let more : SameFields c.match-field_named.fields (c.loop-insn.fields ++ option_to_list c.field_named.result) =
    elim c.match-field_named.branch [
      | in-Some+in_ok-add w ↦ same_added c.loop-insn.fields c.match-field_named.fields c.field_named.result _
          (w.fields-is ∙ w.in_ok-add.ensures) w.in-Some.is
      | in_default w ↦ same_kept c.loop-insn.fields c.match-field_named.fields c.field_named.result w.fields-is w.in_default.is
    ] in
    fields_step (λ x. field_named x.1) c.args.insns.now c.loop-insn.insn-index _ c.loop-insn.fields c.match-field_named.fields _
    c.field_named.result c.loop-insn.invariant c.loop-insn-test.true
    (c.field_named.ensures ∙ ap (λ x. field_named x.1) c.insn-item.is) more
