use Rattle.std.proofs.Common.{◌≡◌, ◌++◌, ap, sym, ◌∙◌, append-nil}
use Rattle.std.specs.Option.{option_to_list}
use Rattle.class_read.specs.View.{field_content}
use Rattle.class_world.specs.Fields.{field_slot}
use Rattle.class_world.proofs.Maps.{filter_step}
use Rattle.class_world.proofs.roster.Roster.slots_of.Goals as goal
use Rattle.class_world.proofs.roster.Roster.slots_of.Goals.{in-Some+in_ok-push, in_default}

pub loop-field-preserved : goal.loop-field-preserved
loop-field-preserved c =
    let more : c.match-field_slot.slots ≡ c.loop-field.slots ++ option_to_list c.field_slot.result =
    elim c.match-field_slot.branch [
      | in-Some+in_ok-push w ↦ w.slots-is ∙ w.in_ok-push.ensures.items ∙ ap (λ o. c.loop-field.slots ++ option_to_list o)
          (sym w.in-Some.is)
      | in_default w ↦ w.slots-is ∙ sym (append-nil c.loop-field.slots) ∙ ap (λ o. c.loop-field.slots ++ option_to_list o)
          (sym w.in_default.is)
    ] in
    filter_step (λ field. field_slot c.args.self.now.classes (field_content field)) c.args.fields.now c.loop-field.field-index _
    c.loop-field.slots c.match-field_slot.slots c.field_slot.result _ c.loop-field.invariant c.loop-field-test.true
    c.field_slot.ensures more
